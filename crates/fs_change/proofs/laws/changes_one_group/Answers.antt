use Rattle.fs_change.proofs.Beside as lemmas
use Rattle.fs_change.proofs.laws.changes_one_group.Goals as goal

pub returns : goal.returns
returns c = lemmas.changes_one_group
