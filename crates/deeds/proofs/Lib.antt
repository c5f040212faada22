-- The laws of the deeds of blocks.
pub mod Doing
pub mod Made
pub mod Wanted
