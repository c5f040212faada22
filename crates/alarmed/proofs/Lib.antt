-- The proofs of this crate.
pub mod Orders
pub mod Lines
pub mod Blocks
pub mod Taking
pub mod Never
pub mod Walks
pub mod Alarmed
pub mod Alone
pub mod Ample
-- ---- passed on to the crates above, which do not list the crate themselves
pub use Rattle.demands.proofs as of_demands
pub use Rattle.demands.proofs.of_interpreter as of_interpreter
