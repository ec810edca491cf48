pub mod Mantissa
pub mod Exponential
pub mod Accuracy
