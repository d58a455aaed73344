pub mod ChunkLemmas
pub mod EntryLemmas
pub mod FaultLemmas
pub mod JudgeLemmas
pub mod KeptLemmas
pub mod SpaceLemmas
