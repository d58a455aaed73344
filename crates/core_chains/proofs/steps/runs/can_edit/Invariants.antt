use Rattle.std.proofs.Common.{length}
use Rattle.core_chains.specs.Steps.Hears.{CanEdit}
use Rattle.core_chains.proofs.steps.runs.can_edit.Given as goal

abbrev pub invariant-loop-first : goal.invariant-loop-first
invariant-loop-first l = record {
  back : CanEdit l.rest → CanEdit l.list;
}

abbrev pub decreases-loop-first : goal.decreases-loop-first
decreases-loop-first l = length l.rest
