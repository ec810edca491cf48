pub mod Folds
pub mod Below
pub mod Held
pub mod Outcomes
pub mod Known
