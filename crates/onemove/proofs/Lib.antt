-- The laws of this crate.
pub mod Giving
pub mod Asking
pub mod Turns
pub mod Starting
