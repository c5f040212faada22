-- The laws of the depths, for the crates built on them.
pub mod Examples
pub mod Rows
pub mod Falls
pub mod Kept
pub mod RuledOut
