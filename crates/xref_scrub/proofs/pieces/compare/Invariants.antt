use Rattle.std.proofs.Common.{◌≡◌, ◌++◌, ◌+◌, ◌-◌, length}
use Rattle.xref_scrub.specs.Cursors.{IsParted, shown_from}
use Rattle.xref_scrub.specs.Differences.{comes_before, shown_by}
use Rattle.xref_scrub.proofs.ShowingLemmas.{faults_in}
use Rattle.xref_scrub.proofs.pieces.compare.Given as goal

-- what was found, and what the records show that are left, is all
abbrev pub invariant-records : goal.invariant-records
invariant-records g l = record {
  parted : IsParted (comes_before g.K.RecKind.form) l.derived l.index l.at.derived l.at.index;
  found : l.faults.items ++ faults_in (shown_from g.K.RecKind.form g.K.Indexed.shown l.index l.derived l.at.derived l.at.index) ≡ faults_in (shown_by g.K.RecKind.form g.K.Indexed.shown l.index l.derived);
}

abbrev pub decreases-records : goal.decreases-records
decreases-records g l = (length l.derived + length l.index) - (l.at.derived + l.at.index)
