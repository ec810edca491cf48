pub mod SizeLaws
pub mod KeyRanges
pub mod Cards
pub mod Geometries
pub mod Rows
pub mod SetupRows
pub mod Scalings
pub mod Products
