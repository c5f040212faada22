-- The laws of the words of a state.
pub mod Parts
pub mod Puts
