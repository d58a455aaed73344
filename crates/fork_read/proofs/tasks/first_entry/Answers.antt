use Rattle.std.proofs.Common.{◌∙◌, arith}
use Rattle.fork_read.proofs.TaskLemmas.{passes_one, last_stays, next_stays}
use Rattle.fork_read.proofs.tasks.first_entry.Goals as goal

pub loop-i-preserved : goal.loop-i-preserved
loop-i-preserved c = record {
  same = c.loop-i.invariant.same ∙ passes_one c.args.from c.args.table.now.count c.args.table.now.keys c.args.table.now.pointers c.loop-i.i c.args.bytes.now c.loop-i-test.true (rw c.get_u64.ensures at c.if-get_u64-from.true);
  below = omega (arith, c.loop-i-test.true);
}

pub returns-else-get_u64-from-clause-exact : goal.returns-else-get_u64-from-clause-exact
returns-else-get_u64-from-clause-exact c =
    c.loop-i.invariant.same ∙ next_stays c.args.from c.args.table.now.count c.args.table.now.keys c.args.table.now.pointers c.loop-i.i c.args.bytes.now c.loop-i-test.true (rw c.get_u64.ensures at c.if-get_u64-from.false)

pub returns-after-loop-i-clause-exact : goal.returns-after-loop-i-clause-exact
returns-after-loop-i-clause-exact c =
    c.loop-i.invariant.same ∙ last_stays c.args.from c.args.table.now.count c.args.table.now.keys c.args.table.now.pointers c.loop-i.i c.args.bytes.now c.loop-i-test.false
