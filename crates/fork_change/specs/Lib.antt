pub mod Answers
pub mod Lists
pub mod Sound
pub mod Written
