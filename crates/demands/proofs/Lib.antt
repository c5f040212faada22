-- The proofs of this crate.
pub mod Table
pub mod Quiet
pub mod Opening
pub mod Threads
pub mod Named
pub mod Linked
pub mod Origins
pub mod Results
pub mod Cycles
pub mod Demands
pub mod Fits
pub mod Buffers
pub mod Placed
pub mod Holding
pub mod Standing
pub mod Points
pub mod Strokes
pub mod EveryBlock
pub mod DeedKinds
pub mod Arcs
-- ---- passed on to the crates above, which do not list the crate themselves
pub use Rattle.interpreter.proofs as of_interpreter
pub use Rattle.interpreter.proofs.of_machine as of_machine
pub use Rattle.interpreter.proofs.of_runners as of_runners
pub use Rattle.interpreter.proofs.of_taking as of_taking
pub use Rattle.interpreter.proofs.of_verdicts as of_verdicts
pub use Rattle.interpreter.proofs.of_writing as of_writing
