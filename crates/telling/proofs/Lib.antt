-- The laws of a test that tells.
pub mod Tells
