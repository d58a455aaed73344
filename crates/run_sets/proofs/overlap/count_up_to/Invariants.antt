use Rattle.std.proofs.Common.{◌-◌, length}
use Rattle.run_sets.specs.Stretches.{ArePassed}
use Rattle.run_sets.proofs.overlap.count_up_to.Given as goal

abbrev pub invariant-loop-count : goal.invariant-loop-count
invariant-loop-count l = ArePassed l.numbers l.count l.block

abbrev pub decreases-loop-count : goal.decreases-loop-count
decreases-loop-count l = length l.numbers - l.count
