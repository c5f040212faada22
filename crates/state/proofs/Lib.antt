-- The laws of the machine between two blocks.
pub mod Settling
