-- The laws of lines and of scanning along them.
pub mod Lining
pub mod Scanning
