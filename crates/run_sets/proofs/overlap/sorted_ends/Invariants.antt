use Rattle.std.proofs.Common.{◌≡◌, ◌+◌, map, take}
use Rattle.run_sets.proofs.overlap.sorted_ends.Given as goal

abbrev pub invariant-loop-run : goal.invariant-loop-run
invariant-loop-run l = l.ends.items ≡ map (λ r. r.start + r.count) (take l.run-index l.runs)
