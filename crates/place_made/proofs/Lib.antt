pub mod MadeLemmas
pub mod TreeLemmas
