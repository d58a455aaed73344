pub mod Counting
pub mod FoundLemmas
pub mod InOrder
pub mod JoinLemmas
pub mod LawLemmas
pub mod LostLemmas
pub mod NeedLemmas
pub mod OrderLemmas
mod RisingLemmas
mod RowLemmas
pub mod SortedLemmas
pub mod SpanLemmas
pub mod SweepLemmas
