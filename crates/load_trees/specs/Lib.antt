pub mod Fit
pub mod Given
pub mod Written
