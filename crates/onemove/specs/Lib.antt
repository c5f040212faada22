-- The definitions that the contracts of this crate cite, and those of the crates built on it.
pub mod OneMove
-- ---- passed on to the crates above, which do not list the crate themselves
pub use Rattle.inhand.specs as of_inhand
pub use Rattle.packing.specs as of_packing
pub use Rattle.runbounds.specs.of_paused as of_paused
pub use Rattle.runbounds.specs.of_resuming as of_resuming
