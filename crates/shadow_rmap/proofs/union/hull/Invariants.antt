use Rattle.std.proofs.Common.{◌≡◌, ◌+◌, ◌<◌, ◌^◌, All, length}
use Rattle.run_edits.specs.Edits.{HasRoom}
use Rattle.shadow_rmap.specs.Union.{hull_from}
use Rattle.shadow_rmap.proofs.union.hull.Given as goal

abbrev pub invariant-loop-first : goal.invariant-loop-first
invariant-loop-first l = record {
  records : All HasRoom l.rest;
  room : l.whole.start + l.whole.count < 2 ^ 32;
  whole : hull_from l.whole l.rec l.rest ≡ hull_from l.rec l.rec l.list;
}

abbrev pub decreases-loop-first : goal.decreases-loop-first
decreases-loop-first l = length l.rest
