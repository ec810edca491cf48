pub mod SmallSignal
