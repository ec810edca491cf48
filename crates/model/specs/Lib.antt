pub mod Calls
pub mod SmallSignal
