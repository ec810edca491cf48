pub mod Computing
pub mod Steps
pub mod Run
pub mod Load
pub mod Example
