pub mod Area
pub mod Beside
pub mod Calls
pub mod Counts
pub mod Recover
pub mod Stages
pub mod Table
