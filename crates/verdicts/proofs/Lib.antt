-- The laws of the verdict on a block.
pub mod Sent
pub mod Passing
