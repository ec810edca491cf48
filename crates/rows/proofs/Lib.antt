pub mod Reading
pub mod Results
