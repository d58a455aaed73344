pub mod Chunks
pub mod Found
pub mod Listed
