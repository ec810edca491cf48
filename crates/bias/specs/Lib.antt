pub mod Bias
