use Rattle.fs_change.proofs.Sets as lemmas
use Rattle.fs_change.proofs.laws.one_set.Goals as goal

pub returns : goal.returns
returns c = lemmas.one_set
