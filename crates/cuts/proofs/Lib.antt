-- The laws of the cuts of a thread that is opened.
pub mod Opened
