pub mod Bounds
pub mod Crashes
pub mod Files
pub mod Lists
pub mod Meets
pub mod Refused
pub mod Repairs
pub mod Scans
