pub mod Naming
pub mod TakeBack
