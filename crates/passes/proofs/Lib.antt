-- The laws of a turning cycle that is opened.
pub mod Cursors
