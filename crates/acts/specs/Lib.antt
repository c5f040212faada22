-- The definitions that the contracts of this crate cite, and those of the crates built on it.
pub mod Acting
