use Rattle.std.proofs.Common.{◌≡◌, ◌++◌, length}
use Rattle.ag_headers.specs.Ring.{entries}
use Rattle.edit_blocks.specs.Choice.{IsSameList}
use Rattle.edit_blocks.proofs.choice.put_all.Given as goal

abbrev pub invariant-loop-block : goal.invariant-loop-block
invariant-loop-block l = record {
  list : entries l.list ++ l.rest ≡ entries l.initial.list ++ l.blocks;
  same : IsSameList l.initial.list l.list;
}

abbrev pub decreases-loop-block : goal.decreases-loop-block
decreases-loop-block l = length l.rest
