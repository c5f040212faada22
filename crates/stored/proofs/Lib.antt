-- The laws of what stands in a text.
pub mod Parts
