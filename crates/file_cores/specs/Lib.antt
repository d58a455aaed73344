pub mod Files
pub mod Looks
pub mod Puts
