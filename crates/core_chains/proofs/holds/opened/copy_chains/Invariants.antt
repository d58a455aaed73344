use Rattle.intent_drain.specs.Drains.{SameGates, SameHolds}
use Rattle.core_chains.proofs.holds.opened.copy_chains.Given as goal

abbrev pub invariant-loop-number : goal.invariant-loop-number
invariant-loop-number l = record { gates : SameGates l.initial.to l.to; holds : SameHolds l.initial.to l.to }
