pub mod Rows
pub mod Track
