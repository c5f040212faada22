-- The definitions that the contracts of this crate cite, and those of the crates built on it.
pub mod Plan
-- ---- passed on to the crates above, which do not list the crate themselves
pub use Rattle.resumable.specs as of_resumable
pub use Rattle.stages.specs as of_stages
