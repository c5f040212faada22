-- The laws of how far an arc goes.
pub mod Quadrants
pub mod Sweeps
