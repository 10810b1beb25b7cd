pub mod Texts
pub mod Fronts
pub mod Backs
