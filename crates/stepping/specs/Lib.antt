-- The definitions that the contracts of this crate cite, and those of the crates built on it.
pub mod Meets
-- ---- passed on to the crates above, which do not list the crate themselves
pub use Rattle.holding.specs as of_holding
