pub mod Repair
pub mod Move
pub mod Reserve
pub mod Letter
pub mod Order
pub mod Memory
