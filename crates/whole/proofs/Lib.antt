-- The laws of this crate's definitions, and those that let `omega` read ℤ.
pub mod Integers
pub mod Held
pub mod Sides
pub mod Positions
