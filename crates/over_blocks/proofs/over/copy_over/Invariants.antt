use Rattle.std.proofs.Common.{◌≡◌, drop}
use Rattle.over_blocks.proofs.OverLemmas.{over_at}
use Rattle.over_blocks.proofs.over.copy_over.Given as goal

abbrev pub invariant-loop-number : goal.invariant-loop-number
invariant-loop-number l = over_at l.placed l.p l.initial.into.bytes ≡ over_at (drop l.number-index l.placed) l.p l.into.bytes
