mod SoundLemmas
pub mod FitLemmas
pub mod ListLemmas
pub mod WrittenLemmas
