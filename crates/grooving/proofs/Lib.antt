-- The laws of the grooving cycle.
pub mod Examples
pub mod Asked
pub mod Rows
pub mod Each
pub mod Counts
pub mod Reach
