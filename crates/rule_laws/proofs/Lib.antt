pub mod ForkLemmas
pub mod GroupLemmas
pub mod InodeLemmas
pub mod LimboLemmas
pub mod RunLemmas
pub mod SwitchLemmas
