-- The laws of words, and worked examples.
pub mod Examples
pub mod Ranges
pub mod Within
pub mod Wording
