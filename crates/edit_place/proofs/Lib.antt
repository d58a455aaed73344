pub mod AlongLemmas
pub mod AnewLemmas
pub mod DeviceLemmas
pub mod NumberLemmas
pub mod PlaceLemmas
