pub mod Decimal
pub mod Lists
