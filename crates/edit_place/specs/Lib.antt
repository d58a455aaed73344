pub mod Calls
pub mod Changed
pub mod Checked
pub mod Placed
pub mod Stops
