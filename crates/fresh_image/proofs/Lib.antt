pub mod HeadLemmas
pub mod InodeLemmas
pub mod WrittenLemmas
