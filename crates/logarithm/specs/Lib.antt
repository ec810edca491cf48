pub mod FixedPoint
pub mod Logarithm
pub mod Accuracy
pub mod SpecialCases
