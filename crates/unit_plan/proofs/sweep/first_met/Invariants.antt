use Rattle.std.proofs.Common.{◌≡◌, drop}
use Rattle.unit_plan.specs.Sweep.{swept}
use Rattle.unit_plan.proofs.sweep.first_met.Given as goal

-- what is left, behind what was passed, is swept as the whole
abbrev pub invariant-loop-piece : goal.invariant-loop-piece
invariant-loop-piece l = swept l.among l.passed.end l.passed.hard_end (drop l.piece-index l.pieces) ≡ swept l.among 0 0 l.pieces
