-- ---- passed on to the crates above, which do not list the crate themselves
pub use Rattle.runwords.specs.of_paused as of_paused
pub use Rattle.runwords.specs as of_runwords
pub use Rattle.runwords.specs.of_taking as of_taking
