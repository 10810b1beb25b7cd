pub mod Figures
pub mod Tried
