use Rattle.fs_change.proofs.Shadow as lemmas
use Rattle.fs_change.proofs.laws.cursor_passes.Goals as goal

pub returns : goal.returns
returns c = lemmas.cursor_passes
