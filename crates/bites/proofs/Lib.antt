-- The laws of the bites of a bore.
pub mod Rows
pub mod Falling
pub mod Walking
