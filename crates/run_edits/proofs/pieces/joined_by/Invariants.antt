use Rattle.std.proofs.Common.{◌≡◌, not, map, filter, take}
use Rattle.run_edits.specs.Pieces.{is_followed, run_of}
use Rattle.run_edits.proofs.pieces.joined_by.Given as goal

abbrev pub invariant-loop-i : goal.invariant-loop-i
invariant-loop-i l = l.runs.items ≡ map (run_of l.pieces) (filter (λ q. not (is_followed l.pieces q)) (take l.i l.pieces))
