use Rattle.live_hooks.proofs.HeardLemmas.{back_given}
use Rattle.live_hooks.proofs.laws.given_back.Goals as goal

pub returns : goal.returns
returns c = back_given
