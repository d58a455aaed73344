pub mod Repairs
pub mod Unclaimed
