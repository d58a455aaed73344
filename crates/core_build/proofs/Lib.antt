pub mod SayLemmas
pub mod WorkLemmas
