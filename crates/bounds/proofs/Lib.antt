pub mod Spread
pub mod Rival
pub mod Helly
pub mod Bound
pub mod Shut
pub mod Heaviest
