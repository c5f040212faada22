-- The laws of the alarms.
pub mod Above
