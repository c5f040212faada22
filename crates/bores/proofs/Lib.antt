-- The laws of a bore that is opened.
pub mod Cursors
