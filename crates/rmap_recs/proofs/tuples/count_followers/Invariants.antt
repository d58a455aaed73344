use Rattle.std.proofs.Common.{◌≡◌, ◌+◌, ◌-◌, ◌^◌, ◌<◌}
use Rattle.rmap_recs.specs.Runs.{followers}
use Rattle.rmap_recs.proofs.tuples.count_followers.Given as goal

abbrev pub invariant-loop-next : goal.invariant-loop-next
invariant-loop-next l = record {
  place : l.last.block ≡ l.tuple.block + l.count;
  room : l.last.block < 2 ^ 32 - 1;
  rest : l.count + followers (2 ^ 32 - l.last.block) l.tuples l.last ≡ followers (2 ^ 32 - l.tuple.block) l.tuples l.tuple;
}

abbrev pub decreases-loop-next : goal.decreases-loop-next
decreases-loop-next l = 2 ^ 32 - l.last.block
