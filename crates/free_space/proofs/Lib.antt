pub mod ChoiceLemmas
pub mod ListLemmas
