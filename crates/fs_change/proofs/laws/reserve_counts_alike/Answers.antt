use Rattle.fs_change.proofs.Counted as lemmas
use Rattle.fs_change.proofs.laws.reserve_counts_alike.Goals as goal

pub returns : goal.returns
returns c = lemmas.reserve_counts_alike
