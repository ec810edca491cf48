pub mod Rows
pub mod InTurn
pub mod Zeros
