pub mod CallLemmas
pub mod SayLemmas
