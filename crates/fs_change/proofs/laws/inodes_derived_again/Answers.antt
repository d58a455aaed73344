use Rattle.fs_change.proofs.Alike as lemmas
use Rattle.fs_change.proofs.laws.inodes_derived_again.Goals as goal

pub returns : goal.returns
returns c = lemmas.inodes_derived_again
