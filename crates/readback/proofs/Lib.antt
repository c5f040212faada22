-- The laws of a list read back.
pub mod Accepted
pub mod Written
pub mod Laws
pub mod Examples
