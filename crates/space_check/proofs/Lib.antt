pub mod EndLemmas
pub mod EventLemmas
pub mod HeadLemmas
pub mod ReadLemmas
