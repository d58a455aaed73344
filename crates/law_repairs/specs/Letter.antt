pub mod Known
pub mod Reaping
