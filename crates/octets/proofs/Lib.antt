-- The laws of numbers as bytes, and of bytes in a buffer.
pub mod LittleEndian
pub mod Laying
