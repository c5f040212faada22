-- The laws of arrows, and of whole numbers where products are compared.
pub mod Differences
pub mod Signs
pub mod Roots
pub mod Reaching
pub mod Plane
pub mod Meaning
pub mod Examples
