pub mod Walk
pub mod LinesPass
pub mod Named
