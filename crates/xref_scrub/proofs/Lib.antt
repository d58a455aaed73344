pub mod CursorLemmas
pub mod DifferenceLemmas
pub mod MergeLemmas
pub mod OrderLemmas
pub mod RecordLemmas
pub mod ShowingLemmas
