pub mod Stated
pub mod Steps
