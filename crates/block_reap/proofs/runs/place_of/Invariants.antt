use Rattle.std.proofs.Common.{◌≡◌, ◌+◌, drop}
use Rattle.block_reap.specs.Limbo.{place_in}
use Rattle.block_reap.proofs.runs.place_of.Given as goal

abbrev pub invariant-loop-other : goal.invariant-loop-other
invariant-loop-other l = (l.place + place_in l.run (drop l.other-index l.runs) ≡ place_in l.run l.runs) × (l.place ≡ l.other-index)
