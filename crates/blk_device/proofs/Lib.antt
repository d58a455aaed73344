pub mod Moments
pub mod RecordLemmas
pub mod ReplayLemmas
pub mod TakenLemmas
pub mod Told
pub mod WindowLemmas
