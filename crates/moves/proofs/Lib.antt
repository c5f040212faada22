-- The laws of the form of the list.
pub mod Writing
pub mod OneReading
pub mod Rows
pub mod Written
pub mod Room
pub mod Last
