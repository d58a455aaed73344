use Rattle.std.proofs.Common.{◌-◌, ℕ, ◌<◌, ◌≤◌, length, get_or}
use Rattle.run_sets.specs.declared.run.Run.{Run}
use Rattle.run_sets.proofs.stretch.begun.Given as goal

abbrev pub invariant-loop-low : goal.invariant-loop-low
invariant-loop-low l = record {
  order : l.low ≤ l.high;
  within : l.high ≤ length l.runs;
  begun : (k : ℕ) (d : Run) → k < l.low → (get_or l.runs k d).start ≤ l.block;
  later : (k : ℕ) (d : Run) → l.high ≤ k → k < length l.runs → l.block < (get_or l.runs k d).start;
}

abbrev pub decreases-loop-low : goal.decreases-loop-low
decreases-loop-low l = l.high - l.low
