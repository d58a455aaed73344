use Rattle.std.proofs.Common.{◌≡◌, ◌+◌, length}
use Rattle.list_edit.specs.Edits.{comes_before}
use Rattle.list_edit.specs.Places.{leading}
use Rattle.list_edit.proofs.places.place_for.Given as goal

abbrev pub invariant-loop-first : goal.invariant-loop-first
invariant-loop-first g l = record {
  count : l.place + length l.rest ≡ length l.list;
  leading : l.place + leading (comes_before g.K.RecKind.form l.rec) l.rest ≡ leading (comes_before g.K.RecKind.form l.rec) l.list;
}

abbrev pub decreases-loop-first : goal.decreases-loop-first
decreases-loop-first g l = length l.rest
