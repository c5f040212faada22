-- The laws of this crate.
pub mod Endings
pub mod Sums
