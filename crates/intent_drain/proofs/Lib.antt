pub mod HoldLemmas
