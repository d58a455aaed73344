pub mod Heard
pub mod Meaning
pub mod Scan
pub mod Silent
