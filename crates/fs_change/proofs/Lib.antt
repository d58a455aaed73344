pub mod Again
pub mod Alike
mod Behind
pub mod Beside
pub mod Compose
mod Counted
pub mod Inodes
pub mod Mapped
pub mod Owed
mod Pieces
pub mod Sets
pub mod Settled
pub mod Shadow
pub mod Stays
pub mod Taking
pub mod Trees
