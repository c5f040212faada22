-- The proofs of this crate.
mod Doors
pub mod Asked
