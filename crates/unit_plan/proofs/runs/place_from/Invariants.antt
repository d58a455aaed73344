use Rattle.std.proofs.Common.{◌≡◌, ◌<◌, ◌≤◌, ◌-◌, ℕ, true, length, get_or, map}
use Rattle.rmap_recs.specs.declared.records.RmapRec.{RmapRec}
use Rattle.run_edits.specs.Edits.{is_before}
use Rattle.unit_plan.specs.Lost.{of_piece}
use Rattle.unit_plan.proofs.runs.place_from.Given as goal

abbrev pub invariant-loop-stride : goal.invariant-loop-stride
invariant-loop-stride l = record {
  on : l.from ≤ l.low;
  within : l.low ≤ length l.pieces;
  some : 1 ≤ l.stride;
  before : (k : ℕ) (d : RmapRec) → k < l.low → is_before (get_or (map of_piece l.pieces) k d) l.next ≡ true;
}

abbrev pub decreases-loop-stride : goal.decreases-loop-stride
decreases-loop-stride l = length l.pieces - l.low
