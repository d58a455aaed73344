pub mod BlockLemmas
pub mod RowLemmas
pub mod SoundLemmas
pub mod TreeLemmas
pub mod GivenLemmas
pub mod WrittenLemmas
