pub mod CoreLemmas
pub mod NoteLemmas
pub mod UnitLemmas
