pub mod Reaped
pub mod Reserved
pub mod Switched
