-- The laws of this crate.
pub mod Passing
-- ---- passed on to the crates above, which do not list the crate themselves
pub use Rattle.returning.proofs as of_returning
