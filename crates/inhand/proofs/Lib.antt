-- The laws of a record that is given.
pub mod Giving
pub mod Cycles
-- ---- passed on to the crates above, which do not list the crate themselves
pub use Rattle.cyclehand.proofs.of_resumable as of_resumable
