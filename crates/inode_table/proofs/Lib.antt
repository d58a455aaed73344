pub mod MaskLemmas
pub mod SlotLemmas
