-- The entries of indexes that an event left ("Reserving New B+Tree Blocks").
use Rattle.std.specs.Prelude.{ℕ, ◌++◌, ◌∷◌, [], List, Option, Some, None}
use Rattle.fs_model.specs.declared.entry.Entry.{Entry}
use Rattle.fs_model.specs.declared.entry.Entry.TheVariants as entries
use Rattle.core_parts.specs.Common.Kinds.{with_trust}
use Rattle.core_parts.specs.declared.groups.Trusts.{Trusts}
use Rattle.fs_model.specs.declared.fault.Cause.{Cause}
use Rattle.fs_model.specs.declared.unit.Trust.TheVariants.{Sick}
use Rattle.sblock.specs.declared.kind.Kind.{Kind}
use Rattle.sblock.specs.declared.kind.Kind.TheVariants.{Bno, Cnt, Rmap}
use Rattle.core_edit.specs.declared.place.IndexesLeft.{IndexesLeft}

-- the mark of an index, where it was left
abbrev pub mark_of : ℕ → Kind → Option Cause → List Entry
mark_of g kind None = []
mark_of g kind (Some cause) = entries.Marked g kind cause ∷ []

-- one for each index that was left, in this order
abbrev pub marks_of : ℕ → IndexesLeft → List Entry
marks_of g left = mark_of g Bno left.bno ++ (mark_of g Cnt left.cnt ++ mark_of g Rmap left.rmap)

-- what is known of a btree then: one that was left is sick
abbrev pub sick_if : Kind → Option Cause → Trusts → Trusts
sick_if kind None t = t
sick_if kind (Some cause) t = with_trust t kind Sick

abbrev pub sick_by : IndexesLeft → Trusts → Trusts
sick_by left t = sick_if Rmap left.rmap (sick_if Cnt left.cnt (sick_if Bno left.bno t))
