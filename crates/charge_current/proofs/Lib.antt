pub mod RelativeOnly
pub mod Terms
pub mod Factors
pub mod Currents
pub mod Errors
pub mod Zeros
pub mod Returns
pub mod Examples
