pub mod ByteLemmas
pub mod ChunkLemmas
