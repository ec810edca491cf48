pub mod Example
pub mod Trace
pub mod Shown
