-- The laws of this crate.
pub mod Lowering
pub mod Remaining
pub mod Turns
pub mod InTurn
pub mod Answering
-- ---- passed on to the crates above, which do not list the crate themselves
pub use Rattle.interpreter.proofs as of_interpreter
pub use Rattle.interpreter.proofs.of_taking as of_taking
