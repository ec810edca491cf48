pub mod Binding
pub mod Scaling
