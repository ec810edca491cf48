pub mod Hex
pub mod Text
