pub mod Devices
pub mod Tags
pub mod Inside
