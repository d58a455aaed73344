pub mod DrainLemmas
pub mod FindLemmas
