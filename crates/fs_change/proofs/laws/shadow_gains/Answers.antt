use Rattle.fs_change.proofs.Shadow as lemmas
use Rattle.fs_change.proofs.laws.shadow_gains.Goals as goal

pub returns : goal.returns
returns c = lemmas.shadow_gains
