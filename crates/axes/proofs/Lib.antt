-- The laws that the cycles share.
pub mod Axes
pub mod Reaching
pub mod Places
pub mod Fitting
pub mod Every
pub mod Moving
