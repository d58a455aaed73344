use Rattle.run_sets.specs.Runs.{most}
use Rattle.run_sets.specs.declared.run.Run.{Run}
use Rattle.inode_pass.specs.Units.{units_in}
use Rattle.inode_pass.proofs.UnitLemmas.{none_left, runs_more}
use Rattle.group_trees.proofs.ClaimLemmas.{run_within}
use Rattle.group_trees.proofs.runs.blocks_in.Goals as goal

-- what a place past the end reads as
abbrev none : Run
none = record { start = 0; count = 0 }

pub put_run-requires : goal.put_run-requires
put_run-requires c = run_within most c.args.runs.now c.loop-run.run-index none c.loop-run-test.true c.requires

pub loop-run-preserved : goal.loop-run-preserved
loop-run-preserved c = runs_more c.loop-run.blocks.items c.put_run.new.blocks.items (units_in c.args.runs.now) c.args.runs.now c.loop-run.run-index none c.loop-run-test.true c.in_ok-put_run.ensures c.loop-run.invariant

pub returns : goal.returns
returns c = none_left c.loop-run.blocks.items (units_in c.args.runs.now) c.args.runs.now c.loop-run.run-index c.loop-run-test.false c.loop-run.invariant
