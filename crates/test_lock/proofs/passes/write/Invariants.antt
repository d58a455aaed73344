use Rattle.std.proofs.Common.{◌≡◌}
use Rattle.turn_lock.specs.Lists.{actors_of}
use Rattle.turn_lock.specs.Passes.{known, Belongs}
use Rattle.test_lock.proofs.passes.write.Given as goal

abbrev pub invariant-loop-number : goal.invariant-loop-number
invariant-loop-number g l = Belongs l.pass l.lock × (actors_of (known l.pass).kept ≡ actors_of (known l.fn.pass).kept)
