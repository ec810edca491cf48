pub mod Runs
pub mod RisingRuns
pub mod InOrder
