pub mod Counts
pub mod Fits
pub mod Outcomes
pub mod WorkedCases
