pub mod CellPattern
pub mod Steps
