pub mod Counted
pub mod Group
pub mod Heads
pub mod Metadata
pub mod Trees
