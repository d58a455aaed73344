use Rattle.std.proofs.Common.{◌≡◌, ◌+◌, ◌<◌, ◌^◌, length}
use Rattle.std.specs.List.{sum_by}
use Rattle.core_units.proofs.readiness.free_inodes_count.Given as goal

abbrev pub invariant-loop-rec : goal.invariant-loop-rec
invariant-loop-rec l = record {
  all : l.total + sum_by (λ r. r.freecount) l.rest ≡ sum_by (λ r. r.freecount) l.recs;
  small : l.total < 2 ^ 32;
}

abbrev pub decreases-loop-rec : goal.decreases-loop-rec
decreases-loop-rec l = length l.rest
