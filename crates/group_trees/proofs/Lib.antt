pub mod ClaimLemmas
pub mod CountLemmas
pub mod HeadLemmas
pub mod MetadataLemmas
pub mod ReadLemmas
pub mod StateLemmas
