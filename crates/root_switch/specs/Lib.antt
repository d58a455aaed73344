pub mod Rooted
pub mod Standing
pub mod Totals
