pub mod Chunks
pub mod Counted
pub mod Entries
pub mod Faults
pub mod Judged
pub mod Kept
pub mod Space
pub mod Units
