-- The definitions that the contracts of this crate cite, and those of the crates built on it.
pub mod Answers
pub mod Known
-- ---- passed on to the crates above, which do not list the crate themselves
pub use Rattle.answers.specs as of_answers
pub use Rattle.answers.specs.of_machine as of_machine
pub use Rattle.answers.specs.of_runners as of_runners
pub use Rattle.answers.specs.of_taking as of_taking
pub use Rattle.answers.specs.of_verdicts as of_verdicts
pub use Rattle.answers.specs.of_writing as of_writing
