pub mod CheckLemmas
pub mod EndedLemmas
pub mod EntryLemmas
pub mod KnownLemmas
