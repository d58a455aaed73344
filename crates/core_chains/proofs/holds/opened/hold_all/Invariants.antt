use Rattle.std.proofs.Common.{◌≡◌, ◌≤◌, ◌*◌, length}
use Rattle.intent_drain.specs.Drains.{SameGates, holds_of}
use Rattle.std.specs.Vec.{vec_capacity}
use Rattle.core_chains.proofs.holds.opened.hold_all.Given as goal

abbrev pub invariant-loop-number : goal.invariant-loop-number
invariant-loop-number l = record {
  gates : SameGates l.initial.drain l.drain;
  few : length (holds_of l.drain) ≤ 2 * l.number;
  room : vec_capacity l.drain.holds ≡ vec_capacity l.initial.drain.holds;
}
