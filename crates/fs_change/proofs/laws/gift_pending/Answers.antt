use Rattle.fs_change.proofs.Settled as lemmas
use Rattle.fs_change.proofs.laws.gift_pending.Goals as goal

pub returns : goal.returns
returns c = lemmas.gift_pending
