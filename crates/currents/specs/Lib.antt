pub mod Loaded
pub mod Branches
pub mod Places
pub mod Currents
