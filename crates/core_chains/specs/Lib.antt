pub mod Write
pub mod Steps
pub mod Refill
