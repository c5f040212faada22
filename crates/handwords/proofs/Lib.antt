-- The laws of this crate, for the crates built on it.
pub mod Slots
-- ---- passed on to the crates above, which do not list the crate themselves
pub use Rattle.resumable.proofs as of_resumable
