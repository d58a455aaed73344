use Rattle.std.proofs.Common.{◌≡◌, ◌+◌, length}
use Rattle.std.specs.Prelude.{not}
use Rattle.list_edit.specs.Edits.{is_one}
use Rattle.list_edit.specs.Places.{leading}
use Rattle.list_edit.proofs.places.place_of.Given as goal

abbrev pub invariant-loop-first : goal.invariant-loop-first
invariant-loop-first g l = record {
  count : l.place + length l.rest ≡ length l.list;
  leading : l.place + leading (λ s. not (is_one g.K.RecKind.form l.rec s)) l.rest ≡ leading (λ s. not (is_one g.K.RecKind.form l.rec s)) l.list;
}

abbrev pub decreases-loop-first : goal.decreases-loop-first
decreases-loop-first g l = length l.rest
