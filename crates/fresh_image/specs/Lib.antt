pub mod Fresh
pub mod Written
