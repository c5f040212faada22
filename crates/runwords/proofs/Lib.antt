-- The laws of the words of a run.
pub mod Tags
-- ---- passed on to the crates above, which do not list the crate themselves
pub use Rattle.paused.proofs.of_resuming as of_resuming
