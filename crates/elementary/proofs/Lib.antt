pub mod Laws
pub mod Series
pub mod Computing
