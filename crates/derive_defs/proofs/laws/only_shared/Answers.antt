use Rattle.derive_defs.proofs.SharedLemmas as lemmas
use Rattle.derive_defs.proofs.laws.only_shared.Goals as goal

pub returns : goal.returns
returns c mappings recs = (lemmas.only_shared mappings recs, lemmas.are_shared mappings recs)
