pub mod Counts
pub mod Entries
pub mod Hears
pub mod Steps
