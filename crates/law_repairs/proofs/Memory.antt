pub mod Edits
pub mod Limbo
pub mod Memory
pub mod Moves
pub mod Rows
pub mod Runs
pub mod Sound
