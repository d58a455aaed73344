use Rattle.live_hooks.proofs.HeardLemmas.{hears_whole}
use Rattle.live_hooks.proofs.laws.hears_all.Goals as goal

pub returns : goal.returns
returns c = hears_whole
