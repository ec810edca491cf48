pub mod Mapping
pub mod Exponents
pub mod Products
pub mod Cores
pub mod Signs
pub mod RaisedBySize
pub mod FractionalExponents
pub mod BothFractional
pub mod Accuracy
pub mod SpecialCases
pub mod Sizes
mod BaseOne
