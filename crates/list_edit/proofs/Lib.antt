pub mod KeepLemmas
pub mod PlaceLemmas
