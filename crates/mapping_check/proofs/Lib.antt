pub mod MapLemmas
pub mod OwnLemmas
