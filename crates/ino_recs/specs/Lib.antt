pub mod ChunkLaws
pub mod Chunks
