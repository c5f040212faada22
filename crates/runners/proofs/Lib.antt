-- The laws of this crate, for the crates built on it.
pub mod Going
-- ---- passed on to the crates above, which do not list the crate themselves
pub use Rattle.steps.proofs.of_machine as of_machine
pub use Rattle.steps.proofs.of_taking as of_taking
pub use Rattle.steps.proofs.of_verdicts as of_verdicts
pub use Rattle.steps.proofs.of_writing as of_writing
