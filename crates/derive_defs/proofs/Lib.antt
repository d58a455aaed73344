pub mod ByCountLemmas
pub mod ConditionLemmas
pub mod FreeLemmas
pub mod SharedLemmas
pub mod SpaceLemmas
