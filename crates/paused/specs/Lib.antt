-- The definitions that the crates built on this one cite.
pub mod Kept
-- ---- passed on to the crates above, which do not list the crate themselves
pub use Rattle.resuming.specs.of_answers as of_answers
pub use Rattle.resuming.specs.of_interpreter as of_interpreter
pub use Rattle.resuming.specs as of_resuming
pub use Rattle.resuming.specs.of_runners as of_runners
pub use Rattle.resuming.specs.of_taking as of_taking
