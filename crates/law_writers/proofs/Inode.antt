pub mod Cores
pub mod Listed
pub mod Turned
