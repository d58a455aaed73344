pub mod Owners
pub mod Rmap
pub mod RmapLaws
pub mod Runs
pub mod Words
