-- The laws of an answer.
pub mod Finished
-- ---- passed on to the crates above, which do not list the crate themselves
pub use Rattle.runners.proofs.of_machine as of_machine
pub use Rattle.runners.proofs as of_runners
pub use Rattle.runners.proofs.of_taking as of_taking
pub use Rattle.runners.proofs.of_verdicts as of_verdicts
pub use Rattle.runners.proofs.of_writing as of_writing
