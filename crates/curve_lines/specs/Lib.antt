pub mod Printed
pub mod Pieces
