-- The laws of numbers as text and of bytes that are written one behind the other, for the crates built on this one; and worked examples.
pub mod Digits
pub mod Writing
pub mod Numbers
pub mod Examples
