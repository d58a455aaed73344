pub mod Kept
pub mod Ordered
pub mod Repairs
