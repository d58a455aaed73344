use Rattle.std.proofs.Common.{◌≡◌, ◌≤◌, ◌+◌, ◌*◌, ◌^◌, take}
use Rattle.std.specs.Prelude.{sum_by, option_to_list}
use Rattle.defer_chain.specs.Steps.{amount_of}
use Rattle.defer_chain.proofs.chain.Chain.due.Given as goal

abbrev pub invariant-loop-intent : goal.invariant-loop-intent
invariant-loop-intent l = (l.due ≡ sum_by (amount_of l.what) (option_to_list l.self.free) + sum_by (amount_of l.what) (take l.intent-index l.intent-items)) × (l.due ≤ (1 + l.intent-index) * 2 ^ 42)
