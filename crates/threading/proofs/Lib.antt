-- The laws of the threading cycle.
pub mod Examples
pub mod Asked
pub mod Lines
pub mod Reach
pub mod Counts
pub mod Threaded
pub mod RuledOut
