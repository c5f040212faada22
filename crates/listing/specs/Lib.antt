-- The definitions that the contracts of this crate cite, and those of the crates built on it.
pub mod Listing
-- ---- passed on to the crates above, which do not list the crate themselves
pub use Rattle.answers.specs as of_answers
