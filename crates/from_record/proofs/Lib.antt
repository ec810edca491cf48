pub mod TagsAtOnce
pub mod ThereAndBack
pub mod Inside
