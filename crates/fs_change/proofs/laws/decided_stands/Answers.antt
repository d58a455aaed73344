use Rattle.fs_change.proofs.Stays as lemmas
use Rattle.fs_change.proofs.laws.decided_stands.Goals as goal

pub returns : goal.returns
returns c = lemmas.decided_stands
