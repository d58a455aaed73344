use Rattle.std.proofs.Common.{◌+◌, ◌*◌, arith}
use Rattle.fork_read.proofs.TaskLemmas.{pushed_none, pushed_one}
use Rattle.fork_read.proofs.tasks.push_entries.Goals as goal

pub loop-i-init : goal.loop-i-init
loop-i-init c = record {
  pushed = pushed_none c.args.level c.args.table.now.count (c.args.table.now.keys + 8 * c.args.table.now.count) (c.args.table.now.pointers + 8 * c.args.table.now.count) c.args.bytes.now c.args.tasks.now.items;
  below = omega arith;
  behind = c.first_entry-first.ensures.few;
}

pub loop-i-preserved : goal.loop-i-preserved
loop-i-preserved c = record {
  pushed = rw (c.in_ok-push_front.ensures.items, c.get_u64.ensures, c.get_u64-in-loop-i.ensures) (pushed_one c.args.level c.args.table.now.count c.args.table.now.keys c.args.table.now.pointers c.loop-i.i c.args.bytes.now c.args.tasks.now.items c.loop-i.tasks.items (omega (arith, c.loop-i-test.true)) c.loop-i.invariant.below c.loop-i.invariant.pushed);
  below = omega (arith, c.loop-i.invariant.below);
  behind = omega (arith, c.loop-i-test.true);
}
