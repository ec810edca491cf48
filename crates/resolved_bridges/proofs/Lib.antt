pub mod Rows
pub mod InOrder
pub mod Bridges
