pub mod Limits
pub mod Nodes
pub mod Refusals
pub mod Stages
