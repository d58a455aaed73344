pub mod Freed
pub mod Marks
pub mod Says
pub mod Switched
pub mod Reserves
pub mod Synced
