use Rattle.std.proofs.Common.{◌≡◌, ◌<◌, ℕ}
use Rattle.place_cells.specs.Cells.{item_at}
use Rattle.place_turns.specs.Edits.{cut_for}
use Rattle.way_check.specs.Checks.{record_in}
use Rattle.way_check.proofs.leaf.has_records.Given as goal

-- the records so far are those of the edited leaf
abbrev pub invariant-loop-i : goal.invariant-loop-i
invariant-loop-i g l = (k : ℕ) → k < l.i → record_in g.K.RecKind.form l.new.bytes k ≡ item_at (record_in g.K.RecKind.form l.old.bytes) (cut_for g.K.RecKind.form l.how l.rec l.at) k
