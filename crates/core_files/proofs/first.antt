pub mod GroupLemmas
pub mod OrderLemmas
pub mod SaidLemmas
pub mod SeekLemmas
pub mod WriteLemmas
