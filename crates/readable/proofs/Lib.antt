-- The proofs of this crate.
pub mod Usual
pub mod Inside
pub mod Runs
