pub mod HaltLemmas
pub mod SaidLemmas
