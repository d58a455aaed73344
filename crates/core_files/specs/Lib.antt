pub mod First
pub mod Maps
pub mod Shares
pub mod Chunks
pub mod Inodes
