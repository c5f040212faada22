-- The definitions that the contracts of this crate cite, and those of the crates built on it.
pub mod Kinds
pub mod Form
pub mod Reading
pub mod Last
pub mod Written
