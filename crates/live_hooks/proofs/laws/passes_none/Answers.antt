use Rattle.live_hooks.proofs.HeardLemmas.{passes}
use Rattle.live_hooks.proofs.laws.passes_none.Goals as goal

pub returns : goal.returns
returns c = passes
