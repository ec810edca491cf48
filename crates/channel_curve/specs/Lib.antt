pub mod Reference
pub mod Curve
