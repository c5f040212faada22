-- The laws of a thread that is opened.
pub mod Cursors
