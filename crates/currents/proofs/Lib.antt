pub mod Places
pub mod Stamps
pub mod Evaluations
pub mod Charges
pub mod Currents
pub mod WithinLists
