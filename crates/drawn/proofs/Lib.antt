pub mod FirstFit
pub mod Line
pub mod Counts
pub mod Bounds
pub mod Says
pub mod Plans
pub mod Bears
