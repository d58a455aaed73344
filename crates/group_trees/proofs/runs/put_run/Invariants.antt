use Rattle.std.proofs.Common.{◌≡◌, ◌++◌}
use Rattle.fs_state.specs.Lists.{numbers}
use Rattle.group_trees.proofs.runs.put_run.Given as goal

-- the blocks so far were put down
abbrev pub invariant-loop-i : goal.invariant-loop-i
invariant-loop-i l = l.blocks.items ≡ l.fn.blocks.items ++ numbers l.run.start l.i
