pub mod BlockLemmas
pub mod EditLemmas
pub mod FoundLemmas
pub mod MakeLemmas
pub mod PrepareLemmas
pub mod ReadLemmas
pub mod StampLemmas
pub mod StopLemmas
