pub mod Assembly
