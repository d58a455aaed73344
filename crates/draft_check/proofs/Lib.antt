pub mod ListLemmas
pub mod DraftLemmas
