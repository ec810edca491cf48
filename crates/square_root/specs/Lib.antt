pub mod SquareRoot
pub mod CorrectlyRounded
