use Rattle.run_sets.specs.declared.run.Run.{Run}
use Rattle.run_sets.proofs.RestLemmas.{in_front_of_all}
use Rattle.run_sets.proofs.stretch.first_stretch.Goals as goal

-- what a place past the end reads as
abbrev none : Run
none = record { start = 0; count = 0 }

pub returns-then-block-run-clause-same : goal.returns-then-block-run-clause-same
returns-then-block-run-clause-same c = λ b low high. in_front_of_all 0 c.args.runs.now none b c.requires.maximal high
