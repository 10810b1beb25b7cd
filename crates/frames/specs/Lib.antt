pub mod Frames
pub mod Reading
