pub mod Entries
pub mod Spots
