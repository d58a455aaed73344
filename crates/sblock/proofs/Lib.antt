pub mod AreaLemmas
pub mod BlockLemmas
pub mod FieldLemmas
pub mod ListLemmas
pub mod MeetLemmas
pub mod SpanLemmas
pub mod WrittenLemmas
