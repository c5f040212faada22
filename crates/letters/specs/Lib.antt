-- The definitions that the definitions of other crates cite.
pub mod Letters
pub mod Text
