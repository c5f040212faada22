-- The laws of the word rules.
pub mod Ruling
