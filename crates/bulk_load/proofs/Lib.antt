pub mod AreaLemmas
pub mod HeaderLemmas
pub mod LoadLemmas
pub mod Numbers
pub mod RecordLemmas
pub mod ShapeLemmas
