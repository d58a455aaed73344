pub mod RefcountLaws
pub mod Refcounts
pub mod SpanLaws
pub mod Spans
