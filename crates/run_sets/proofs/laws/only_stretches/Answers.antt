use Rattle.run_sets.proofs.OnlyStretchesLemmas.{only_stretches_below, stretches_if_only}
use Rattle.run_sets.proofs.laws.only_stretches.Goals as goal

pub returns : goal.returns
returns c f least length ss = (only_stretches_below f least length ss, stretches_if_only f least length ss)
