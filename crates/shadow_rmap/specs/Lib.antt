pub mod Inner
pub mod Kept
pub mod Told
pub mod ToldLaws
pub mod Union
