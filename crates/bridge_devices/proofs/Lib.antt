pub mod Lowest
pub mod Rows
