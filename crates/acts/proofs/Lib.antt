-- The laws of what a number says.
pub mod Examples
pub mod Saying
