use Rattle.std.proofs.Common.{◌-◌, ◌≡◌, ◌+◌, ◌*◌, ◌≤◌, ◌++◌}
use Rattle.dinode_core.specs.ForkTree.{entries}
use Rattle.fork_read.specs.Walk.{tasks_of}
use Rattle.fork_read.proofs.tasks.push_entries.Given as goal

abbrev pub invariant-loop-i : goal.invariant-loop-i
invariant-loop-i l = record {
  pushed : l.tasks.items ≡ tasks_of l.level (entries (l.table.count - l.i) (l.table.keys + 8 * l.i) (l.table.pointers + 8 * l.i) l.bytes) ++ l.fn.tasks.items;
  below : l.i ≤ l.table.count;
  behind : l.first ≤ l.i;
}

abbrev pub decreases-loop-i : goal.decreases-loop-i
decreases-loop-i l = l.i - l.first
