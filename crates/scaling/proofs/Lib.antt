-- The laws of a cycle's numbers.
pub mod Scaling
pub mod Wanted
