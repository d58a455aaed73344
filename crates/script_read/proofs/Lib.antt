mod CutLemmas
mod SectionLemmas
mod StepLemmas
mod LongLemmas
mod WrongLemmas
mod ReadLemmas
mod RangeLemmas
mod ShapeLemmas
