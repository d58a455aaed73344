pub mod Agreed
pub mod Losing
pub mod Lying
