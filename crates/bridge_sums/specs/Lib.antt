pub mod BridgeSums
