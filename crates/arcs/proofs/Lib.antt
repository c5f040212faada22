-- The laws of arcs.
pub mod Sizes
pub mod Ranges
pub mod Told
