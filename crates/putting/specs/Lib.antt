-- The definitions that the contracts of this crate cite.
pub mod Cycles
-- ---- passed on to the crates above, which do not list the crate themselves
pub use Rattle.stages.specs as of_stages
