-- ---- passed on to the crates above, which do not list the crate themselves
pub use Rattle.handwords.specs as of_handwords
pub use Rattle.passhand.specs as of_passhand
pub use Rattle.handwords.specs.of_resumable as of_resumable
pub use Rattle.stages.specs as of_stages
