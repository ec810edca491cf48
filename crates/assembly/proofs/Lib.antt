pub mod Cells
pub mod Outcome
