pub mod Cut
pub mod Behind
pub mod Rebuild
pub mod Spare
pub mod Unclaimed
