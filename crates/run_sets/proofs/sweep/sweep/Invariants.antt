use Rattle.std.proofs.Common.{◌-◌, ◌≡◌, ℕ, true, ◌≤◌, ◌<◌, ◌++◌}
use Rattle.run_sets.specs.Rest.{IsRest}
use Rattle.run_sets.specs.Runs.{runs_from, runs_below}
use Rattle.run_sets.specs.Operation.{kept}
use Rattle.run_sets.proofs.sweep.sweep.Given as goal

-- all blocks from start to at are kept, the rests are those at the block, and what was found and what is kept from start on is all
abbrev pub invariant-loop-at : goal.invariant-loop-at
invariant-loop-at l = record {
  order : l.start ≤ l.at;
  within : l.at ≤ l.length;
  left : IsRest l.left l.at l.left_rest;
  right : IsRest l.right l.at l.right_rest;
  passes : (b : ℕ) → l.start ≤ b → b < l.at → kept l.operation l.left l.right b ≡ true;
  found : l.found.items ++ runs_from (kept l.operation l.left l.right) l.start (l.length - l.start) ≡ runs_below (kept l.operation l.left l.right) l.length;
}

abbrev pub decreases-loop-at : goal.decreases-loop-at
decreases-loop-at l = l.length - l.at
