pub mod BatchLemmas
pub mod EnterLemmas
pub mod JoinedLaws
pub mod ListLemmas
pub mod WholeLemmas
