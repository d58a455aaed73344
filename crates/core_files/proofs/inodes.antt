pub mod InodeLemmas
pub mod SaidLemmas
