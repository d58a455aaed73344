pub mod HullLemmas
pub mod NextLemmas
pub mod ToldLemmas
pub mod UnionLemmas
