pub mod RefcountLemmas
pub mod SpanLemmas
