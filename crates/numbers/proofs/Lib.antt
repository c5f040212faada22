-- The laws of the number reader.
pub mod Bounds
pub mod Reading
