pub mod Causes
pub mod Doors
pub mod Found
