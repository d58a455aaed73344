pub mod Sets
pub mod Positions
pub mod Steps
pub mod Chain
pub mod Actors
