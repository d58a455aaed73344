use Rattle.std.proofs.Common.{◌≡◌, ◌+◌, ◌-◌, ◌^◌, ◌<◌}
use Rattle.run_edits.specs.Pieces.{run_of}
use Rattle.run_edits.proofs.pieces.run_from.Given as goal

abbrev pub invariant-loop-next : goal.invariant-loop-next
invariant-loop-next l = record {
  room : l.run.start + l.run.count < 2 ^ 32;
  whole : run_of l.pieces l.run ≡ run_of l.pieces l.piece;
}

abbrev pub decreases-loop-next : goal.decreases-loop-next
decreases-loop-next l = 2 ^ 32 - (l.run.start + l.run.count)
