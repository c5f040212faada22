-- The laws of the numbers that are lent.
pub mod Lent
