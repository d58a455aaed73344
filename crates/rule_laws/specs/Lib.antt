pub mod Forks
pub mod Groups
pub mod Inodes
pub mod Limbo
pub mod Runs
pub mod Switches
