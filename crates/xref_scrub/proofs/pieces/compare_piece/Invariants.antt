use Rattle.std.proofs.Common.{◌≡◌, ◌++◌, take}
use Rattle.xref_scrub.specs.Cursors.{IsParted, shown_from}
use Rattle.xref_scrub.specs.Differences.{comes_before, piece}
use Rattle.xref_scrub.proofs.ShowingLemmas.{faults_in}
use Rattle.xref_scrub.proofs.pieces.compare_piece.Given as goal

-- what was found, and what the records show that are left of the piece, are its faults
abbrev pub invariant-piece : goal.invariant-piece
invariant-piece g l = record {
  parted : IsParted (comes_before g.K.RecKind.form) l.derived l.index l.at.derived l.at.index;
  found : l.faults.items ++ faults_in (take l.left (shown_from g.K.RecKind.form g.K.Indexed.shown l.index l.derived l.at.derived l.at.index)) ≡ piece g.K.RecKind.form g.K.Indexed.shown l.index l.derived l.fn.from;
}

abbrev pub decreases-piece : goal.decreases-piece
decreases-piece g l = l.left
