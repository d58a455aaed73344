use Rattle.std.proofs.Common.{◌≡◌, ◌*◌, ◌≤◌, take}
use Rattle.std.specs.List.{sum_by}
use Rattle.core_units.proofs.totals.free_in.Given as goal

-- the records so far, each with a number of 8 bits
abbrev pub invariant-loop-rec : goal.invariant-loop-rec
invariant-loop-rec l = record {
  sum : l.total ≡ sum_by (λ r. r.freecount) (take l.rec-index l.recs);
  small : l.total ≤ 255 * l.rec-index;
}
