pub mod Chains
pub mod Drains
pub mod Holds
