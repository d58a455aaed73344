use Rattle.std.proofs.Common.{◌≡◌, length}
use Rattle.intent_drain.specs.Holds.{holder_in}
use Rattle.intent_drain.proofs.holds.holder_of.Given as goal

abbrev pub invariant-loop-first : goal.invariant-loop-first
invariant-loop-first l = holder_in l.rest l.ino ≡ holder_in l.holds l.ino

abbrev pub decreases-loop-first : goal.decreases-loop-first
decreases-loop-first l = length l.rest
