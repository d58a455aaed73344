pub mod Cursors
pub mod Differences
pub mod Merging
pub mod Shown
