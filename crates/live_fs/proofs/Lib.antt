mod EndLemmas
mod PassLemmas
mod SectionLemmas
