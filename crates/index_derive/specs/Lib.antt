pub mod Inodes
pub mod Laws
pub mod Owners
pub mod Runs
pub mod Units
