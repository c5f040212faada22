-- The laws of a block that is opened.
pub mod Opening
