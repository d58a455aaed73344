use Rattle.std.proofs.Common.{◌-◌, ◌≡◌, ◌+◌, ◌*◌, ◌≤◌}
use Rattle.dinode_core.specs.ForkTree.{entries}
use Rattle.fork_read.specs.Walk.{pruned}
use Rattle.fork_read.proofs.tasks.first_entry.Given as goal

abbrev pub invariant-loop-i : goal.invariant-loop-i
invariant-loop-i l = record {
  same : pruned l.from (entries l.table.count l.table.keys l.table.pointers l.bytes) ≡ pruned l.from (entries (l.table.count - l.i) (l.table.keys + 8 * l.i) (l.table.pointers + 8 * l.i) l.bytes);
  below : l.i ≤ l.table.count;
}

abbrev pub decreases-loop-i : goal.decreases-loop-i
decreases-loop-i l = l.table.count - l.i
