pub mod PieceLaw
pub mod PieceLemmas
pub mod PieceLists
