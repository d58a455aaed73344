use Rattle.std.proofs.Common.{◌≡◌, length}
use Rattle.intent_drain.specs.Drains.{SameHolds, gates_of}
use Rattle.core_chains.proofs.holds.opened.copy_gates.Given as goal

abbrev pub invariant-loop-group : goal.invariant-loop-group
invariant-loop-group l = record {
  from : l.from ≡ l.initial.from;
  gates : length (gates_of l.to) ≡ l.groups;
  holds : SameHolds l.initial.to l.to;
}
