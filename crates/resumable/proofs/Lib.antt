-- The laws of what is kept, and of its test.
pub mod Kept
pub mod Fit
