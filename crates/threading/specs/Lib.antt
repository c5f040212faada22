-- The definitions that the contracts of this crate cite, and those of the crates built on it.
pub mod Bits
pub mod Threading
pub mod Threaded
