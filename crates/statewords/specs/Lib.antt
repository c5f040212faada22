-- The definitions that the contracts of this crate cite, and those of the crates built on it.
pub mod State
-- ---- passed on to the crates above, which do not list the crate themselves
pub use Rattle.planwords.specs as of_planwords
