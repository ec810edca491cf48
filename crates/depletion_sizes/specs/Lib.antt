pub mod DepletionSizes
