pub mod Checked
pub mod Image
pub mod Inodes
pub mod Kept
pub mod Mappings
pub mod Owners
pub mod Reads
pub mod Units
