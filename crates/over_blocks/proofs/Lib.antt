pub mod OverLemmas
