pub mod Contributions
pub mod Laid
pub mod Binding
pub mod Loads
