pub mod Power
pub mod Accuracy
pub mod SpecialCases
