use Rattle.std.proofs.Common.{◌≡◌, ◌<◌, ℕ, false}
use Rattle.std.specs.Prelude.{is_none}
use Rattle.intent_drain.specs.Chains.{chain_at}
use Rattle.intent_drain.proofs.drain.Drain.free_number.Given as goal

abbrev pub invariant-loop-number : goal.invariant-loop-number
invariant-loop-number l = (k : ℕ) → k < l.number → is_none (chain_at l.self.chains.items k) ≡ false
