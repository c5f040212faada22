-- The laws of the bounds of a run.
pub mod Keeping
-- ---- passed on to the crates above, which do not list the crate themselves
pub use Rattle.runwords.proofs.of_resuming as of_resuming
