pub mod Books
pub mod Calls
pub mod Histories
pub mod Laws
pub mod Faults
