use Rattle.std.proofs.Common.{◌-◌, ◌≡◌, ℕ, ◌≤◌, ◌<◌, ◌++◌}
use Rattle.run_sets.specs.Runs.{most}
use Rattle.run_sets.specs.Stretches.{ArePassed, open_at, stretches_from, stretches}
use Rattle.run_sets.proofs.overlap.levels.Given as goal

-- all blocks from start to at have the number, and what was found and what is there from start on is all
abbrev pub invariant-loop-at : goal.invariant-loop-at
invariant-loop-at l = record {
  order : l.start ≤ l.at;
  within : l.at ≤ most;
  ahead : l.least ≤ l.count → l.start < l.at;
  equal : (b : ℕ) → l.start ≤ b → b < l.at → open_at l.starts l.ends b ≡ l.count;
  begun : ArePassed l.starts l.begun l.at;
  ended : ArePassed l.ends l.ended l.at;
  found : l.found.items ++ stretches_from (open_at l.starts l.ends) l.least l.start (most - l.start) ≡ stretches (open_at l.starts l.ends) l.least most;
}

abbrev pub decreases-loop-at : goal.decreases-loop-at
decreases-loop-at l = most - l.at
