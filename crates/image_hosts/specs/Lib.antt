pub mod Asked
pub mod MemFiles
pub mod MemHost
pub mod Stored
