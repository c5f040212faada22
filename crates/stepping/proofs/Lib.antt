-- The laws of this crate.
pub mod Turning
-- ---- passed on to the crates above, which do not list the crate themselves
pub use Rattle.holding.proofs as of_holding
