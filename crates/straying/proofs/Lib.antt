-- The laws of an arc and the limits.
pub mod Limits
pub mod Ways
pub mod Rays
pub mod Stays
pub mod Rows
pub mod Examples
pub mod Places
