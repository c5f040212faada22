-- The definitions that the contracts of this crate cite, and those of the crates built on it.
pub mod Taken
pub mod Laid
-- ---- passed on to the crates above, which do not list the crate themselves
pub use Rattle.paused.specs.of_answers as of_answers
pub use Rattle.paused.specs.of_interpreter as of_interpreter
pub use Rattle.paused.specs as of_paused
pub use Rattle.paused.specs.of_resuming as of_resuming
pub use Rattle.paused.specs.of_runners as of_runners
pub use Rattle.paused.specs.of_taking as of_taking
