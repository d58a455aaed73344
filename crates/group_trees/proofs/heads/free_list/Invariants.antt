use Rattle.std.proofs.Common.{◌≡◌, take}
use Rattle.ag_headers.specs.Ring.{entries}
use Rattle.group_trees.proofs.heads.free_list.Given as goal

-- the entries so far
abbrev pub invariant-loop-i : goal.invariant-loop-i
invariant-loop-i l = l.blocks.items ≡ take l.i (entries l.list)
