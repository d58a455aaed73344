pub mod CauseLemmas
pub mod DraftLemmas
pub mod FitLemmas
