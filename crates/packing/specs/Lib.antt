-- The definitions that the contracts of this crate cite, and those of the crates built on it.
pub mod Packing
-- ---- passed on to the crates above, which do not list the crate themselves
pub use Rattle.answers.specs as of_answers
pub use Rattle.answers.specs.of_stages as of_stages
pub use Rattle.answers.specs.of_taking as of_taking
