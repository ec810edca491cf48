pub mod Stored
pub mod Zero
pub mod NoConductance
pub mod Parts
pub mod There
