mod BegunLemmas
pub mod InodeLemmas
pub mod LawLemmas
pub mod OwnerLemmas
pub mod RunLemmas
pub mod UnitLemmas
