-- The statement of this crate.
pub mod Strokes
