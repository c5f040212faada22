-- The definitions of this crate.
pub mod Remains
pub mod Handed
pub mod Engines
pub mod OneMove
-- ---- passed on to the crates above, which do not list the crate themselves
pub use Rattle.interpreter.specs.of_answers as of_answers
pub use Rattle.interpreter.specs as of_interpreter
pub use Rattle.interpreter.specs.of_runners as of_runners
pub use Rattle.interpreter.specs.of_taking as of_taking
