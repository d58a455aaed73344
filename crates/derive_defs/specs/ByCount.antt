-- Free space in the order of its btree by count.
use Rattle.std.specs.Prelude.{◌≡◌, ◌↔◌, ℕ, List, [], ◌∷◌, max, if◌then◌else◌}
use Rattle.std.specs.List.Sorted.{IsPermutation}
use Rattle.sblock.specs.Blocks.{IsRising, AllInside}
use Rattle.sblock.specs.declared.block.Bounds.{Bounds}
use Rattle.span_recs.specs.Spans.{bno_form, cnt_form, is_before_by_count}
use Rattle.span_recs.specs.declared.span.SpanRec.{SpanRec}

-- the same records, by count and then start
pub record AreByCount (free recs : List SpanRec) : Type 0 where
  pub same : IsPermutation free recs
  pub rising : IsRising cnt_form recs

-- a record at its place among others that are in order
abbrev pub put_in : SpanRec → List SpanRec → List SpanRec
put_in r [] = r ∷ []
put_in r (s ∷ rest) = if is_before_by_count s r then s ∷ put_in r rest else r ∷ s ∷ rest

-- the same as a function of the records
unfoldable pub ordered_by_count : List SpanRec → List SpanRec
ordered_by_count [] = []
ordered_by_count (r ∷ free) = put_in r (ordered_by_count free)

-- where the records rise by start, only one list is that
abbrev pub OnlyByCount : Type 0
OnlyByCount = (free recs : List SpanRec) → IsRising bno_form free → AreByCount free recs ↔ (recs ≡ ordered_by_count free)

-- the greatest count, 0 where there is no record
abbrev pub greatest : List SpanRec → ℕ
greatest [] = 0
greatest (r ∷ rs) = max r.count (greatest rs)

-- records in the range of the btree by start are in that of the one by count
abbrev pub KeepInside : List SpanRec → List SpanRec → Type 0
KeepInside free recs = (bounds : Bounds) → AllInside bno_form bounds free → AllInside cnt_form bounds recs
