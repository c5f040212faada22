-- The statements of this crate.
pub mod Table
pub mod Steps
pub mod Placed
pub mod Opens
pub mod Demands
pub mod Points
pub mod Strokes
pub mod Origins
pub mod Arcs
-- ---- passed on to the crates above, which do not list the crate themselves
pub use Rattle.interpreter.specs.of_answers as of_answers
pub use Rattle.interpreter.specs as of_interpreter
pub use Rattle.interpreter.specs.of_machine as of_machine
pub use Rattle.interpreter.specs.of_runners as of_runners
pub use Rattle.interpreter.specs.of_taking as of_taking
pub use Rattle.interpreter.specs.of_verdicts as of_verdicts
pub use Rattle.interpreter.specs.of_writing as of_writing
