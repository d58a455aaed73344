pub mod ChoiceLemmas
