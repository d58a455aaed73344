pub mod Freed
pub mod Inodes
