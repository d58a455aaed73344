pub mod Covered
pub mod Judged
pub mod Repairs
pub mod Unclaimed
