-- The laws of this crate, for the crates built on it.
pub mod Within
pub mod Whole
pub mod Staying
-- ---- passed on to the crates above, which do not list the crate themselves
pub use Rattle.answers.proofs.of_machine as of_machine
pub use Rattle.answers.proofs.of_runners as of_runners
pub use Rattle.answers.proofs.of_taking as of_taking
pub use Rattle.answers.proofs.of_verdicts as of_verdicts
pub use Rattle.answers.proofs.of_writing as of_writing
