-- The law of this program.
pub mod Listed
