pub mod Inside
pub mod Loaded
pub mod Known
pub mod Numbers
