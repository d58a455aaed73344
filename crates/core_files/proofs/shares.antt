pub mod SaidLemmas
pub mod ShareLemmas
