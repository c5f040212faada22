-- The laws of an answer as one number.
pub mod Packs
