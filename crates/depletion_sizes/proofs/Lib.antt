pub mod Branches
pub mod Powers
pub mod Bases
pub mod Depletion
