pub mod Known
pub mod Plain
pub mod Reaped
pub mod Reaping
