use Rattle.fs_change.proofs.Again as lemmas
use Rattle.fs_change.proofs.laws.space_derived_again.Goals as goal

pub returns : goal.returns
returns c = lemmas.space_derived_again
