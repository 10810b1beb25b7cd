pub mod Faults
pub mod Places
pub mod Taking
pub mod Backs
