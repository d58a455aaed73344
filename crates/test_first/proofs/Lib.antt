pub mod SafeLemmas
