pub mod Books
pub mod Keeps
pub mod Phases
pub mod Reasons
pub mod Safe
pub mod Common
pub mod Opens
