-- The definitions that the contracts of this crate cite, and those of the crates built on it.
pub mod Passed
-- ---- passed on to the crates above, which do not list the crate themselves
pub use Rattle.returning.specs.of_answers as of_answers
pub use Rattle.returning.specs.of_paused as of_paused
pub use Rattle.returning.specs.of_resuming as of_resuming
pub use Rattle.returning.specs as of_returning
