pub mod Drawing
pub mod Room
