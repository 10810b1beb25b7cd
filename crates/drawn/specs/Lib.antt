pub mod FirstFit
pub mod Slotting
pub mod Claims
