-- The laws of a run that is laid into words.
pub mod Putting
pub mod Back
