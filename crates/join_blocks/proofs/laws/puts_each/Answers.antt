use Rattle.join_blocks.proofs.PutLemmas.{puts_each}
use Rattle.join_blocks.proofs.laws.puts_each.Goals as goal

pub returns : goal.returns
returns c = record { each = puts_each }
