-- The laws of a search along the lines.
pub mod Searching
pub mod Walking
