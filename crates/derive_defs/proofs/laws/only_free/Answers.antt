use Rattle.derive_defs.proofs.SpaceLemmas as lemmas
use Rattle.derive_defs.proofs.laws.only_free.Goals as goal

pub returns : goal.returns
returns c length mappings free = (lemmas.only_free length mappings free, lemmas.are_free length mappings free)
