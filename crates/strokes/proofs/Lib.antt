-- The law of the four cycles.
pub mod Reading
pub mod Turned
pub mod Grooved
pub mod Drilled
pub mod FourCycles
pub mod Beside
pub mod RuledOut
