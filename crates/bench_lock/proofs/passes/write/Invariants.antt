use Rattle.bench_lock.proofs.passes.write.Given as goal
use Rattle.turn_lock.specs.Passes.{Belongs}

abbrev pub invariant-loop-number : goal.invariant-loop-number
invariant-loop-number g l = Belongs l.pass l.lock
