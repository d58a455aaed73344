pub mod Claiming
pub mod Edits
pub mod Kept
pub mod Loose
pub mod Moving
pub mod Pairs
pub mod Space
pub mod Steps
