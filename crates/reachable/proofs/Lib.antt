pub mod Parameters
pub mod Reachable
