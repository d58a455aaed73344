pub mod Counts
pub mod Mappings
pub mod Space
