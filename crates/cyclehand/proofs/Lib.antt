-- ---- passed on to the crates above, which do not list the crate themselves
pub use Rattle.handwords.proofs as of_handwords
pub use Rattle.handwords.proofs.of_resumable as of_resumable
