-- ---- passed on to the crates above, which do not list the crate themselves
pub use Rattle.resuming.proofs.of_interpreter as of_interpreter
pub use Rattle.resuming.proofs as of_resuming
pub use Rattle.resuming.proofs.of_taking as of_taking
