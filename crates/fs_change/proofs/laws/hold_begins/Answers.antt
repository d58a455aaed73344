use Rattle.fs_change.proofs.Shadow as lemmas
use Rattle.fs_change.proofs.laws.hold_begins.Goals as goal

pub returns : goal.returns
returns c = lemmas.hold_begins
