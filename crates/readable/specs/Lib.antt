-- The statement of this crate.
pub mod Readable
