-- The laws of the test.
pub mod Fit
