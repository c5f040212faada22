-- The laws of a block that hands out its records.
pub mod Cursors
