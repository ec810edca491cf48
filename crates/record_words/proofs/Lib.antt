pub mod WholeNumbers
pub mod KnownTags
pub mod WordsWith
pub mod ThereAndBack
pub mod FieldPlaces
