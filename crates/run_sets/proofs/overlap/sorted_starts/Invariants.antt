use Rattle.std.proofs.Common.{◌≡◌, map, take}
use Rattle.run_sets.proofs.overlap.sorted_starts.Given as goal

abbrev pub invariant-loop-run : goal.invariant-loop-run
invariant-loop-run l = l.starts.items ≡ map (λ r. r.start) (take l.run-index l.runs)
