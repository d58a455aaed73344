use Rattle.std.proofs.Common.{◌≡◌, filter, length, take}
use Rattle.run_edits.specs.Pieces.{is_last}
use Rattle.run_edits.proofs.counts.count_ends.Given as goal

abbrev pub invariant-loop-piece : goal.invariant-loop-piece
invariant-loop-piece l = l.count ≡ length (filter (is_last l.pieces) (take l.piece-index l.pieces))
