pub mod Kept
pub mod Nobodys
pub mod Told
