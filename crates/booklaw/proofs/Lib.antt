pub mod Passing
pub mod AllCalls
