use Rattle.std.proofs.Common.{◌≡◌, drop}
use Rattle.ag_headers.specs.Ring.{entries}
use Rattle.edit_blocks.specs.Choice.{IsSameList}
use Rattle.edit_blocks.proofs.choice.take_from.Given as goal

abbrev pub invariant-loop-i : goal.invariant-loop-i
invariant-loop-i l = record {
  rest : entries l.list ≡ drop l.i (entries l.initial.list);
  same : IsSameList l.initial.list l.list;
}
