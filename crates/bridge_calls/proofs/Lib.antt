pub mod Numbers
pub mod Answers
pub mod Loads
pub mod Resolved
