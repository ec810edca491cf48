pub mod Filling
pub mod Twos
