pub mod OverExponential
