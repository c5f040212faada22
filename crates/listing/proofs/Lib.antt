-- The laws of this crate, for the crates built on it.
pub mod Reading
pub mod Lengths
pub mod Made
pub mod Examples
