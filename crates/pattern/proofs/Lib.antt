pub mod Rows
pub mod Spans
pub mod Places
