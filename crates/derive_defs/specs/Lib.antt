pub mod ByCount
pub mod Free
pub mod Mappings
pub mod Shared
