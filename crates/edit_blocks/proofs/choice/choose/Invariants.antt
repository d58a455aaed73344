use Rattle.std.proofs.Common.{◌≡◌, ◌++◌, take}
use Rattle.ag_headers.specs.Ring.{entries}
use Rattle.edit_blocks.proofs.choice.choose.Given as goal

abbrev pub invariant-loop-i : goal.invariant-loop-i
invariant-loop-i l = l.claimed.items ≡ take l.kept l.blocks ++ take l.i (entries l.list)
