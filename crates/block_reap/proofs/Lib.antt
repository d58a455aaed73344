pub mod NextLemmas
pub mod PutLemmas
pub mod RunLemmas
