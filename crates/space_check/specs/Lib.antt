pub mod Checked
pub mod Events
pub mod Faults
pub mod Groups
pub mod Progress
pub mod Reads
pub mod Session
