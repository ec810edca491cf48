pub mod Fraction
pub mod FloatValue
pub mod Float64
pub mod Size
