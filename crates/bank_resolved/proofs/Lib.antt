pub mod Celled
pub mod Numbers
pub mod Rows
pub mod InTurn
