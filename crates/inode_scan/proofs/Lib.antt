pub mod ChunkLemmas
pub mod CursorLemmas
pub mod FewLaw
pub mod FirstLaw
pub mod LeastLaw
pub mod NextLaw
pub mod SearchLemmas
