pub mod ResolvedBridges
