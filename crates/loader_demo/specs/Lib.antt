pub mod Clockwise
