mod Losing
pub mod Lying
mod Needs
mod Spares
