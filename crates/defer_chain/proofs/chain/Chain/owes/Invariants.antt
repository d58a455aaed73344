use Rattle.std.proofs.Common.{◌≡◌, ◌≤◌, ◌+◌, take, Option, Some, None}
use Rattle.std.specs.Prelude.{sum_by, option_to_list}
use Rattle.defer_chain.specs.Steps.{counted_in}
use Rattle.defer_chain.proofs.chain.Chain.owes.Given as goal

abbrev pub invariant-loop-intent : goal.invariant-loop-intent
invariant-loop-intent l = (l.owes ≡ sum_by (counted_in l.group) (option_to_list l.self.free) + sum_by (counted_in l.group) (take l.intent-index l.intent-items)) × (l.owes ≤ 1 + l.intent-index)
