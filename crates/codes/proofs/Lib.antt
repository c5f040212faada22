-- The laws of the tables of G and M numbers.
pub mod Tables
