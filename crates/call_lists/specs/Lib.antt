pub mod Calls
pub mod F64
pub mod LastEvaluation
pub mod Recount
