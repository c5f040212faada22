-- The laws of what a block asks of the runner.
pub mod Examples
pub mod Steering
