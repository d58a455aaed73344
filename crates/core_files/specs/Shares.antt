pub mod Entries
pub mod Shares
