use Rattle.live_hooks.proofs.HeardLemmas.{hears_nothing}
use Rattle.live_hooks.proofs.laws.hears_none.Goals as goal

pub returns : goal.returns
returns c = hears_nothing
