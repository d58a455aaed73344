pub mod Operation
pub mod Rest
pub mod Runs
pub mod Sets
pub mod Stretches
