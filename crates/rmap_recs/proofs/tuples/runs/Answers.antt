use Rattle.rmap_recs.proofs.RunLemmas.{maximal_runs, runs_end}
use Rattle.rmap_recs.proofs.tuples.runs.Goals as goal

pub returns-clause-exact : goal.returns-clause-exact
returns-clause-exact c = maximal_runs c.args.tuples.now c.in_ok-find_runs.field-0.items c.in_ok-find_runs.ensures c.requires.sorted c.requires.blocks

pub returns-clause-ends : goal.returns-clause-ends
returns-clause-ends c =
    let ts = c.args.tuples.now in
    runs_end ts c.in_ok-find_runs.field-0.items c.requires.blocks (maximal_runs ts c.in_ok-find_runs.field-0.items c.in_ok-find_runs.ensures c.requires.sorted c.requires.blocks)
