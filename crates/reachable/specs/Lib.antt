pub mod DeviceBounds
