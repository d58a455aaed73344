use Rattle.std.proofs.Common.{◌≡◌, length}
use Rattle.std.specs.List.{list_any}
use Rattle.list_edit.specs.Edits.{bars}
use Rattle.list_edit.proofs.places.is_barred.Given as goal

abbrev pub invariant-loop-first : goal.invariant-loop-first
invariant-loop-first g l = list_any (bars g.K.RecKind.form l.rec) l.rest ≡ list_any (bars g.K.RecKind.form l.rec) l.list

abbrev pub decreases-loop-first : goal.decreases-loop-first
decreases-loop-first g l = length l.rest
