-- The laws of offsets and targets.
pub mod Sending
pub mod Ranges
