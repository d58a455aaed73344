pub mod Drafts
pub mod Fitting
