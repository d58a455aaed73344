pub mod Lines
pub mod Masks
pub mod Names
pub mod Owners
pub mod Report
