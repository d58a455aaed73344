pub mod Finished
pub mod Members
pub mod Nobodys
pub mod Others
