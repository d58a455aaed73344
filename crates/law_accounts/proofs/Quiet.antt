pub mod Counts
pub mod Few
pub mod Ordered
pub mod Owners
pub mod Whole
