-- The definitions that the contracts of this crate cite, and those of the crates built on it.
pub mod Blocks
-- ---- passed on to the crates above, which do not list the crate themselves
pub use Rattle.putting.specs.of_stages as of_stages
pub use Rattle.verdicts.specs as of_verdicts
pub use Rattle.writing.specs as of_writing
