-- The laws of the settings as a row.
pub mod Rows
