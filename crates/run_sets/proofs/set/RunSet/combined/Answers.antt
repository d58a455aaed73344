use Rattle.std.proofs.Common.{arith}
use Rattle.run_sets.specs.Operation.{kept}
use Rattle.run_sets.proofs.SetLemmas.{tested, holds_below}
use Rattle.run_sets.proofs.set.RunSet.combined.Goals as goal

pub invariant_of-result : goal.invariant_of-result
invariant_of-result c = record { maximal = tested (kept c.args.operation c.runs.result.now c.args.other.now) c.args.length c.in_ok-runs.runs.items (omega arith) c.in_ok-runs.ensures.exact }

pub returns : goal.returns
returns c = record {
  exact = λ b. rw (← c.runs.ensures.value) (holds_below (kept c.args.operation c.runs.result.now c.args.other.now) c.args.length c.in_ok-runs.runs.items b c.in_ok-runs.ensures.exact);
}
