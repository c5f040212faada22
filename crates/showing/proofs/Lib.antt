-- The laws of a judged line.
pub mod Heads
pub mod Bare
