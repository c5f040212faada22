-- The laws of what the alarms ask of a deed.
pub mod Judging
pub mod Examples
