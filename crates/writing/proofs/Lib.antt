-- The laws of the records of a block.
pub mod Rows
pub mod Matched
pub mod Chain
