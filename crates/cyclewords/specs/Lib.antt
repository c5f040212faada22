-- The definitions that the contracts of this crate cite, and those of the crates built on it.
pub mod Sizes
pub mod Passing
pub mod Turned
pub mod Threaded
pub mod Grooved
pub mod Drilled
