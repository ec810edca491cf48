pub mod Entries
pub mod Rows
