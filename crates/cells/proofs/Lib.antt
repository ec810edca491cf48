pub mod Insertion
pub mod Order
pub mod Indices
pub mod Members
pub mod Bounds
