use Rattle.std.proofs.Common.{◌≡◌, map, filter, take}
use Rattle.rmap_recs.specs.Runs.{run_from, begins_run}
use Rattle.rmap_recs.proofs.tuples.find_runs.Given as goal

abbrev pub invariant-loop-tuple : goal.invariant-loop-tuple
invariant-loop-tuple l = l.runs.items ≡ map (run_from l.tuples) (filter (begins_run l.tuples) (take l.tuple-index l.tuples))
