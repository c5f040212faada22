-- The laws of the drilling cycles.
pub mod Asked
pub mod Each
pub mod Counts
pub mod Reach
pub mod Examples
