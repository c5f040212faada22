-- The laws of this crate, for the crates built on it.
pub mod Running
pub mod Wordless
-- ---- passed on to the crates above, which do not list the crate themselves
pub use Rattle.putting.proofs.of_handing as of_handing
pub use Rattle.verdicts.proofs as of_verdicts
pub use Rattle.writing.proofs as of_writing
