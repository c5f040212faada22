-- The laws of the turning cycle.
pub mod Examples
pub mod Turned
pub mod RuledOut
pub mod Asked
pub mod Reach
pub mod Counts
