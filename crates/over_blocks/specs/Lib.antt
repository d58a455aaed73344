pub mod Lasts
pub mod LastsLaws
pub mod Over
