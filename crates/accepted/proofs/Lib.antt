pub mod Accepted
pub mod Bounds
