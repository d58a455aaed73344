pub mod ChainLemmas
pub mod EndLemmas
pub mod KeyLemmas
pub mod PlaceLemmas
pub mod RisingLemmas
pub mod RunLemmas
pub mod SearchLemmas
pub mod WordLemmas
