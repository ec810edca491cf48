pub mod Weights
pub mod Blocks
pub mod Contributions
pub mod Entries
pub mod Cells
pub mod EveryLoad
