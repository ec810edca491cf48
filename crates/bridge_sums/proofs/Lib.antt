pub mod InOrder
pub mod Accepted
pub mod EveryDevice
pub mod Cancelling
pub mod Others
