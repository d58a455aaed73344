pub mod AfterLemmas
pub mod BeginLemmas
pub mod MayLemmas
pub mod StartLemmas
