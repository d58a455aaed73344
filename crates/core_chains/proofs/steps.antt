pub mod PartLemmas
pub mod ReadLemmas
pub mod RunLemmas
pub mod SaidLemmas
pub mod StretchLemmas
