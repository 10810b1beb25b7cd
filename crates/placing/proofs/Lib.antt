pub mod Tied
pub mod Turns
pub mod Agree
pub mod Draws
pub mod Writes
pub mod Lays
