pub mod Limiter
pub mod Threshold
