pub mod Records
pub mod Devices
