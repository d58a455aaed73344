pub mod Joins
pub mod Causes
