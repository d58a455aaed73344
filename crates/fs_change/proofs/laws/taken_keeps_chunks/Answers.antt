use Rattle.fs_change.proofs.Taking as lemmas
use Rattle.fs_change.proofs.laws.taken_keeps_chunks.Goals as goal

pub returns : goal.returns
returns c = lemmas.taken_keeps_chunks
