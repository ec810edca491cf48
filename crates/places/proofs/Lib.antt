pub mod Spans
pub mod Missing
