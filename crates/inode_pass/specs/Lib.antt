pub mod Cores
pub mod Notes
pub mod Noting
pub mod Stops
pub mod Units
