pub mod AskLemmas
pub mod EntryLemmas
