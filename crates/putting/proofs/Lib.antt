-- The laws of the records of a block as they are written.
pub mod Nothing
pub mod Cycles
-- ---- passed on to the crates above, which do not list the crate themselves
pub use Rattle.handing.proofs as of_handing
