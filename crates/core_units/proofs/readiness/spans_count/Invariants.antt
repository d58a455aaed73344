use Rattle.std.proofs.Common.{◌≡◌, ◌+◌, ◌<◌, ◌^◌, length}
use Rattle.std.specs.List.{sum_by}
use Rattle.core_units.proofs.readiness.spans_count.Given as goal

abbrev pub invariant-loop-span : goal.invariant-loop-span
invariant-loop-span l = record {
  all : l.total + sum_by (λ r. r.count) l.rest ≡ sum_by (λ r. r.count) l.spans;
  small : l.total < 2 ^ 32;
}

abbrev pub decreases-loop-span : goal.decreases-loop-span
decreases-loop-span l = length l.rest
