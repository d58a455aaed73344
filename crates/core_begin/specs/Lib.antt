pub mod After
pub mod Early
pub mod Starts
pub mod Whole
