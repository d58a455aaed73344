pub mod Cut
pub mod Told
