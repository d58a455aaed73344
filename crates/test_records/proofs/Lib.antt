pub mod CountedLemmas
pub mod RowLemmas
