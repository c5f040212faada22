-- The laws of the settings.
pub mod Right
