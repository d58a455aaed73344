pub mod Cached
pub mod CachedLaws
pub mod Calls
pub mod Meets
pub mod Reading
pub mod Told
