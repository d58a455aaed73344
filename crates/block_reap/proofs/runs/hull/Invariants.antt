use Rattle.std.proofs.Common.{◌≡◌, length}
use Rattle.block_reap.specs.Limbo.{HasRun, AllHaveRuns, hull_of}
use Rattle.block_reap.proofs.runs.hull.Given as goal

abbrev pub invariant-loop-first : goal.invariant-loop-first
invariant-loop-first l = (hull_of l.run l.whole l.rest ≡ hull_of l.run l.run l.runs) × HasRun l.whole × AllHaveRuns l.rest

abbrev pub decreases-loop-first : goal.decreases-loop-first
decreases-loop-first l = length l.rest
