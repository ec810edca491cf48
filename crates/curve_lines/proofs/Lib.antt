pub mod Cutting
pub mod Reading
pub mod Whole
pub mod Room
