-- The laws of this crate.
pub mod Moving
pub mod Going
pub mod Keeping
pub mod Finding
-- ---- passed on to the crates above, which do not list the crate themselves
pub use Rattle.paused.proofs.of_interpreter as of_interpreter
pub use Rattle.paused.proofs.of_resuming as of_resuming
pub use Rattle.paused.proofs.of_taking as of_taking
