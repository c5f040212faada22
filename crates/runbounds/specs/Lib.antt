-- ---- passed on to the crates above, which do not list the crate themselves
pub use Rattle.runwords.specs.of_interpreter as of_interpreter
pub use Rattle.runwords.specs.of_paused as of_paused
pub use Rattle.runwords.specs.of_resuming as of_resuming
pub use Rattle.runwords.specs as of_runwords
