-- The laws of a groove that is opened.
pub mod Cursors
