pub mod Counted
pub mod Passed
pub mod Pieces
pub mod Read
pub mod Sets
pub mod Told
