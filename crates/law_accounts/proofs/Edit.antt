pub mod Counts
pub mod Gaps
pub mod Mappings
pub mod Orders
pub mod Spaces
