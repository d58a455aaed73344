use Rattle.join_blocks.proofs.PutLemmas.{puts_others, finds_others}
use Rattle.join_blocks.proofs.laws.joins_these_alone.Goals as goal

pub returns : goal.returns
returns c = record { put = puts_others; found = finds_others }
