pub mod Word
pub mod Number
pub mod Lists
pub mod Items
pub mod Text
