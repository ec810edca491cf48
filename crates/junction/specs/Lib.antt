pub mod Junction
