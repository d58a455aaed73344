pub mod Choice
pub mod Spans
