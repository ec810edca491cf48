pub mod Constants
pub mod Temperature
