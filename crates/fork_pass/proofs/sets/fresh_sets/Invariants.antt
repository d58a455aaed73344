use Rattle.fork_pass.specs.Sets.{AreFresh}
use Rattle.fork_pass.proofs.sets.fresh_sets.Given as goal

abbrev pub invariant-loop-i : goal.invariant-loop-i
invariant-loop-i l = AreFresh l.i l.sets.items
