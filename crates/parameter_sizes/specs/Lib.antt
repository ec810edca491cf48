pub mod ParameterSizes
