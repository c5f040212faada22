-- The laws of reading a tape.
pub mod Noting
pub mod Going
pub mod Cutting
pub mod Tabled
pub mod Enough
pub mod Staying
