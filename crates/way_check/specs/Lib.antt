pub mod Checks
pub mod Way
