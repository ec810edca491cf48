pub mod LoadResolved
pub mod ByNumbers
