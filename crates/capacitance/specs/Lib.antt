pub mod Meyer
pub mod Depletion
