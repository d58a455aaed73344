pub mod Held
pub mod Holders
pub mod Kept
