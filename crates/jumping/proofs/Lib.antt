-- The laws of a jump that stands alone.
pub mod Texts
