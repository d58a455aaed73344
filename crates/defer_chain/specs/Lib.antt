pub mod Falls
pub mod Owed
pub mod Steps
pub mod Stretch
