pub mod Changes
pub mod StandsFor
mod ByNumbers
