pub mod Columns
pub mod Product
