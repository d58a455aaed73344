pub mod Forks
pub mod Rising
pub mod Rows
pub mod Shares
