-- The statements of this crate.
pub mod Order
pub mod Tests
pub mod Walking
pub mod Alarmed
pub mod Never
-- ---- passed on to the crates above, which do not list the crate themselves
pub use Rattle.demands.specs.of_answers as of_answers
pub use Rattle.demands.specs as of_demands
pub use Rattle.demands.specs.of_interpreter as of_interpreter
pub use Rattle.demands.specs.of_taking as of_taking
