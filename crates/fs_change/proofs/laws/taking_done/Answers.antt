use Rattle.fs_change.proofs.Settled as lemmas
use Rattle.fs_change.proofs.laws.taking_done.Goals as goal

pub returns : goal.returns
returns c = lemmas.taking_done
