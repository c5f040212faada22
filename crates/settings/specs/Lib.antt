-- The definitions that the contracts of this crate cite, and those of the crates built on it.
pub mod Limits
pub mod Wrong
pub mod Points
pub mod Known
