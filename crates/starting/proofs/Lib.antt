-- The laws of this crate.
pub mod Begun
pub mod Bounded
pub mod Meeting
