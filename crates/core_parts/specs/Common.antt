pub mod Asks
pub mod Entries
pub mod Kinds
pub mod Marks
