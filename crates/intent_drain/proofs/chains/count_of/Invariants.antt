use Rattle.std.proofs.Common.{◌≡◌, ◌≤◌, ◌*◌, take}
use Rattle.std.specs.Prelude.{sum_by}
use Rattle.intent_drain.specs.Chains.{owed_by}
use Rattle.intent_drain.proofs.chains.count_of.Given as goal

abbrev pub invariant-loop-chain : goal.invariant-loop-chain
invariant-loop-chain l = (l.count ≡ sum_by (owed_by l.group) (take l.chain-index l.chains)) × (l.count ≤ 6 * l.chain-index)
