-- The laws of a list judged.
pub mod Judges
