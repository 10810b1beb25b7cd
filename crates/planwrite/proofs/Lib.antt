pub mod ReadBack
pub mod Lengths
