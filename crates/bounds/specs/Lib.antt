pub mod Claims
pub mod Measures
