use Rattle.run_sets.specs.Runs.{most}
use Rattle.run_sets.specs.declared.run.Run.{Run}
use Rattle.index_derive.proofs.RunLemmas.{ends_at, last_put}
use Rattle.index_derive.specs.Runs.{merged}
use Rattle.index_derive.proofs.runs.join_all.Goals as goal

-- what a place past the end reads as
abbrev none : Run
none = record { start = 0; count = 0 }

pub grown-requires : goal.grown-requires
grown-requires c = ends_at most c.args.runs.now c.loop-run.run-index none c.requires c.loop-run-test.true

pub returns : goal.returns
returns c = last_put c.loop-run.found.items _ (merged 0 0 c.args.runs.now) c.args.runs.now c.loop-run.span.start c.loop-run.span.end c.loop-run.run-index c.loop-run-test.false c.in_ok-put_span.ensures c.loop-run.invariant
