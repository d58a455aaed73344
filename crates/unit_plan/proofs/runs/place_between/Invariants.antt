use Rattle.std.proofs.Common.{◌≡◌, ◌<◌, ◌≤◌, ◌-◌, ℕ, true, false, length, get_or, map}
use Rattle.rmap_recs.specs.declared.records.RmapRec.{RmapRec}
use Rattle.run_edits.specs.Edits.{is_before}
use Rattle.unit_plan.specs.Lost.{of_piece}
use Rattle.unit_plan.proofs.runs.place_between.Given as goal

abbrev pub invariant-loop-low : goal.invariant-loop-low
invariant-loop-low l = record {
  order : l.low ≤ l.high;
  within : l.high ≤ length l.pieces;
  before : (k : ℕ) (d : RmapRec) → k < l.low → is_before (get_or (map of_piece l.pieces) k d) l.next ≡ true;
  others : (k : ℕ) (d : RmapRec) → l.high ≤ k → k < length l.pieces → is_before (get_or (map of_piece l.pieces) k d) l.next ≡ false;
}

abbrev pub decreases-loop-low : goal.decreases-loop-low
decreases-loop-low l = l.high - l.low
