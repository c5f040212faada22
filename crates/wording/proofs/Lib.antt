-- ---- passed on to the crates above, which do not list the crate themselves
pub use Rattle.taking.proofs.of_machine as of_machine
pub use Rattle.taking.proofs as of_taking
pub use Rattle.taking.proofs.of_verdicts as of_verdicts
pub use Rattle.taking.proofs.of_writing as of_writing
