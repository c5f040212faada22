-- What is known between two blocks of a trial.
pub mod Carried
