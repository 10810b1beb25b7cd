pub mod Weights
pub mod Law
