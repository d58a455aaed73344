pub mod Claims
pub mod Frame
pub mod Levels
pub mod Lists
pub mod Sites
pub mod Sizes
pub mod Tree
pub mod Walked
