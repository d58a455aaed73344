use Rattle.defer_chain.proofs.StretchLemmas.{stretch_law}
use Rattle.defer_chain.proofs.counts.one_count.Goals as goal

pub returns : goal.returns
returns c = stretch_law
