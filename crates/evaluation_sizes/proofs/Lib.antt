pub mod Accepted
pub mod Threshold
pub mod Limiter
pub mod Gate
pub mod Bounds
pub mod Evaluated
pub mod Committed
pub mod Fresh
