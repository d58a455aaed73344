pub mod Passes
pub mod Ranges
pub mod Runs
pub mod Sections
