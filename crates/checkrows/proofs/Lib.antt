pub mod RowsPass
pub mod Links
pub mod Places
pub mod Sheet
pub mod Onward
