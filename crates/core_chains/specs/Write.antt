pub mod Chains
pub mod Says
pub mod Writes
