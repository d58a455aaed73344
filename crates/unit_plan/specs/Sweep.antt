-- Along pieces that rise by their first block: the first of these blocks on which an earlier piece goes on.
use Rattle.std.specs.Prelude.{ℕ, ◌+◌, ◌&&◌, List, [], ◌∷◌, Option, Some, None, max, nat_lt, if◌then◌else◌}
use Rattle.unit_plan.specs.declared.piece.Among.{Among}
use Rattle.unit_plan.specs.declared.piece.Piece.{Piece}
use Rattle.unit_plan.specs.Pieces.{is_hard, is_looked_at}

-- where all pieces passed so far end, and where those end that stand beside no other
abbrev pub swept : Among → ℕ → ℕ → List Piece → Option ℕ
swept among end hard [] = None
swept among end hard (p ∷ ps) =
    if is_looked_at among p.claim && nat_lt 0 p.run.count then
    (if nat_lt p.run.start (if is_hard p then end else hard) then Some p.run.start
    else swept among (max end (p.run.start + p.run.count)) (if is_hard p then max hard (p.run.start + p.run.count) else hard) ps)
    else swept among end hard ps
