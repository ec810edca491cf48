pub mod Resolved
pub mod Steps
