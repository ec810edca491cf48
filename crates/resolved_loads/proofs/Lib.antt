pub mod SamePlaces
pub mod ResolvedLoads
