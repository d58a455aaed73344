pub mod Entries
pub mod Halts
