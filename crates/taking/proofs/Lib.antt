-- The laws of this crate, for the crates built on it.
pub mod Lines
pub mod Stepping
-- ---- passed on to the crates above, which do not list the crate themselves
pub use Rattle.machine.proofs.of_handing as of_handing
pub use Rattle.machine.proofs as of_machine
pub use Rattle.machine.proofs.of_verdicts as of_verdicts
pub use Rattle.machine.proofs.of_writing as of_writing
