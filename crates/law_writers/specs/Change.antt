pub mod Chunks
pub mod Forks
pub mod Owners
pub mod Settled
