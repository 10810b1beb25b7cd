pub mod Does
pub mod WriteOut
pub mod Starts
pub mod Slips
pub mod Runs
