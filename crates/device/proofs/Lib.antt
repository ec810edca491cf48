pub mod Branches
pub mod Rows
