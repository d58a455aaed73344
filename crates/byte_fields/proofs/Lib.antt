pub mod BelowLemmas
pub mod ChecksumLemmas
pub mod EmptyLemmas
pub mod TableLemmas
pub mod TestLemmas
pub mod WordLemmas
