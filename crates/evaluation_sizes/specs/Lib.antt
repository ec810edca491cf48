pub mod Arguments
pub mod EvaluationSizes
