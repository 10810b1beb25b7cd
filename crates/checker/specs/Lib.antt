pub mod Verdicts
pub mod Claims
