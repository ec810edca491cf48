pub mod EvalInPlace
pub mod CommitInPlace
pub mod LoadResolved
