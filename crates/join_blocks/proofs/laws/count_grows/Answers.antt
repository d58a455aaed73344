use Rattle.join_blocks.proofs.CountLemmas.{counts_joined, count_grows}
use Rattle.join_blocks.proofs.laws.count_grows.Goals as goal

pub returns : goal.returns
returns c = record { joined = counts_joined; grows = count_grows }
