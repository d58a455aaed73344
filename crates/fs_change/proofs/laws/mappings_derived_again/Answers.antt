use Rattle.fs_change.proofs.Mapped as lemmas
use Rattle.fs_change.proofs.laws.mappings_derived_again.Goals as goal

pub returns : goal.returns
returns c = lemmas.mappings_derived_again
