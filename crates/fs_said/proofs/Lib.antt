mod Found
pub mod Journals
