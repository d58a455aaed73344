pub mod Cut
pub mod Moved
pub mod Told
