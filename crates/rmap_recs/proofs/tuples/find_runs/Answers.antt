use Rattle.std.proofs.Common.{List, map, filter, ◌∙◌, ap}
use Rattle.std.proofs.lemmas.List.{take_all}
use Rattle.rmap_recs.specs.Runs.{run_from, begins_run, runs_of}
use Rattle.rmap_recs.specs.declared.tuples.Tuple.{Tuple}
use Rattle.rmap_recs.proofs.tuples.find_runs.Goals as goal

pub returns : goal.returns
unfolding runs_of
returns c =
    let ts = c.args.tuples.now in
    c.loop-tuple.invariant ∙ ap (λ (some : List Tuple). map (run_from ts) (filter (begins_run ts) some)) (take_all c.loop-tuple.tuple-index ts c.loop-tuple-test.false)
