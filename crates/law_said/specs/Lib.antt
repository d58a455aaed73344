pub mod Ends
pub mod InTime
pub mod Through
pub mod Truth
