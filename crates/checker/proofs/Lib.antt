pub mod Passing
pub mod Numbers
pub mod Collisions
pub mod Answering
