pub mod Sums
pub mod Ring
pub mod Sides
pub mod Masks
pub mod Choosing
pub mod Cuts
pub mod Claims
