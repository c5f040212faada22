-- The laws of what a motion asks.
pub mod Asking
pub mod Examples
