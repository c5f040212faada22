-- The laws of the block's words.
pub mod Slots
pub mod Lines
pub mod Heads
pub mod Worded
