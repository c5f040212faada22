-- The laws of what is due.
pub mod Cursors
