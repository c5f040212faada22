-- The definitions that the contracts of this crate cite, and those of the crates built on it.
pub mod Meets
-- ---- passed on to the crates above, which do not list the crate themselves
pub use Rattle.wording.specs.of_machine as of_machine
pub use Rattle.wording.specs.of_stages as of_stages
pub use Rattle.wording.specs.of_taking as of_taking
pub use Rattle.wording.specs.of_verdicts as of_verdicts
pub use Rattle.wording.specs.of_writing as of_writing
