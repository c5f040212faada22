-- The laws of the fields of a list.
pub mod Taking
