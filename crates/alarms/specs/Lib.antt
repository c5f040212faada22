-- The definitions that name the alarms.
pub mod Numbers
pub mod Given
