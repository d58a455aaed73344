pub mod HeadLemmas
pub mod LeafLemmas
pub mod NodeLemmas
pub mod OverLemmas
pub mod ReadLemmas
pub mod StepLemmas
pub mod WalkLemmas
pub mod WayLemmas
