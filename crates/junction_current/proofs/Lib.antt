pub mod Polarity
pub mod ThermalVoltage
pub mod Exponential
pub mod Shockley
pub mod Norton
pub mod Returns
pub mod ReturnsExample
