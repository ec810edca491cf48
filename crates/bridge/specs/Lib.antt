pub mod Runs
pub mod Steps
pub mod Bridge
