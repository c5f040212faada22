-- The laws of what lies ahead of a block.
pub mod Places
