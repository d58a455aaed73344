pub mod Checks
pub mod Entries
pub mod Heads
pub mod InodesKept
pub mod Kept
pub mod Parts
pub mod Phases
pub mod Session
