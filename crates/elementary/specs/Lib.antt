pub mod Functions
pub mod Accuracy
