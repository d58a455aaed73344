use Rattle.derive_defs.proofs.ByCountLemmas as lemmas
use Rattle.derive_defs.proofs.laws.only_by_count.Goals as goal

pub returns : goal.returns
returns c free recs rises = (lemmas.only_by_count free recs rises, lemmas.by_count_if_only free recs rises)
