pub mod Outcomes
pub mod Histories
pub mod RecountIndependence
pub mod LastEvaluation
pub mod Unevaluated
pub mod Prefix
pub mod Induction
