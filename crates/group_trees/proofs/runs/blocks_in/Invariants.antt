use Rattle.std.proofs.Common.{◌≡◌, ◌++◌, drop}
use Rattle.inode_pass.specs.Units.{units_in}
use Rattle.group_trees.proofs.runs.blocks_in.Given as goal

-- the blocks of the runs so far, and those of the runs that are left, are all
abbrev pub invariant-loop-run : goal.invariant-loop-run
invariant-loop-run l = l.blocks.items ++ units_in (drop l.run-index l.runs) ≡ units_in l.runs
