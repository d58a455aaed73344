pub mod DueLemmas
pub mod FileHostLemmas
pub mod MemHostLemmas
pub mod RedoFileLemmas
