use Rattle.join_blocks.proofs.PutLemmas.{puts_all, finds_all, finds_keep}
use Rattle.join_blocks.proofs.laws.joins_each.Goals as goal

pub returns : goal.returns
returns c = record { put = puts_all; found = finds_all; kept = finds_keep }
