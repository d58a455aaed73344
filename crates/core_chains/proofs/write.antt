pub mod CallLemmas
pub mod ChainLemmas
pub mod FitLemmas
pub mod PartLemmas
pub mod Places
pub mod SaysLemmas
pub mod WriteLemmas
