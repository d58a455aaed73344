pub mod AgreeLemmas
pub mod EntryLemmas
