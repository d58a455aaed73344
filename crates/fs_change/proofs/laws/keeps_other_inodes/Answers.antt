use Rattle.fs_change.proofs.Inodes as lemmas
use Rattle.fs_change.proofs.laws.keeps_other_inodes.Goals as goal

pub returns : goal.returns
returns c = lemmas.keeps_other_inodes
