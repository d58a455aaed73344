pub mod Meets
pub mod Pieces
