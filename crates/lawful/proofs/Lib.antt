-- The laws of the records that a list may have.
pub mod Flags
