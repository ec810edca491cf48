pub mod Digits
pub mod Patterns
pub mod Writing
pub mod Joining
