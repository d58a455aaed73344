use Rattle.fs_change.proofs.Settled as lemmas
use Rattle.fs_change.proofs.laws.change_pending.Goals as goal

pub returns : goal.returns
returns c = lemmas.change_pending
