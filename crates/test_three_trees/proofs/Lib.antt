pub mod ChangeLemmas
pub mod CrashLemmas
pub mod GiveLemmas
