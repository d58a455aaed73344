pub mod ChainLemmas
pub mod DueLemmas
pub mod StepLemmas
pub mod StretchLemmas
