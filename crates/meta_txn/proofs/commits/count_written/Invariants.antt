use Rattle.std.proofs.Common.{◌≡◌, ◌+◌}
use Rattle.meta_txn.proofs.commits.count_written.Given as goal

abbrev pub invariant-loop-left : goal.invariant-loop-left
invariant-loop-left g l = record {
  writes : l.steps.writes + l.left ≡ l.initial.steps.writes + l.count;
  reads : l.steps.reads ≡ l.initial.steps.reads;
  moves : l.steps.moves ≡ l.initial.steps.moves;
}

abbrev pub decreases-loop-left : goal.decreases-loop-left
decreases-loop-left g l = l.left
