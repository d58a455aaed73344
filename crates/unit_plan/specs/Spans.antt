-- A walk along free space, reverse mappings and pieces at once, each in the order of its starts: which of them are passed.
use Rattle.std.specs.Prelude.{◌≡◌, ℕ, ◌+◌, ◌-◌, ◌<◌, ◌≤◌, Bool, false, not, ◌&&◌, ◌||◌, nat_le, max, List, [], ◌∷◌, drop, length, map, Option, Some, None, if◌then◌else◌}
use Rattle.run_sets.specs.declared.run.Run.{Run}
use Rattle.run_sets.specs.Runs.{holds, most, EndWithin}
use Rattle.derive_defs.specs.Mappings.{blocks_of}
use Rattle.rmap_recs.specs.declared.records.RmapRec.{RmapRec}
use Rattle.span_recs.specs.declared.span.SpanRec.{SpanRec}
use Rattle.unit_plan.specs.declared.piece.Among.{Among}
use Rattle.unit_plan.specs.declared.piece.Piece.{Piece}
use Rattle.unit_plan.specs.declared.spare.Place.{Place}
use Rattle.unit_plan.specs.Pieces.{is_looked_at}

-- ---- all three as runs

abbrev pub span_run : SpanRec → Run
span_run r = record { start = r.start; count = r.count }

-- a piece that isn't looked at has no blocks here
abbrev pub looked_run : Among → Piece → Run
looked_run among p = record { start = p.run.start; count = if is_looked_at among p.claim then p.run.count else 0 }

-- none of these begins before the block
abbrev pub BeginAt : ℕ → List Run → Type 0
BeginAt s [] = Unit {0}
BeginAt s (r ∷ rs) = (s ≤ r.start) × BeginAt s rs

-- none begins before one that stands in front of it
abbrev pub RunsRise : List Run → Type 0
RunsRise [] = Unit {0}
RunsRise (r ∷ rs) = BeginAt r.start rs × RunsRise rs

-- in the first runs, and in none of the others
abbrev pub outside : List Run → List Run → List Run → ℕ → Bool
outside free mappings pieces b = holds free b && not (holds mappings b || holds pieces b)

-- no block below the place passes, and from there on those that are left hold what all hold
pub record Stands (free mappings pieces : List Run) (at : Place) : Type 0 where
  pub low : (b : ℕ) → b < at.from → outside free mappings pieces b ≡ false
  pub free_left : (b : ℕ) → at.from ≤ b → holds free b ≡ holds (drop at.span free) b
  pub mappings_left : (b : ℕ) → at.from ≤ b → holds mappings b ≡ holds (drop at.mapping mappings) b
  pub pieces_left : (b : ℕ) → at.from ≤ b → holds pieces b ≡ holds (drop at.piece pieces) b

-- where the first of these ends, if it begins at the block or before it
abbrev pub end_past : ℕ → List Run → Option ℕ
end_past from [] = None
end_past from (r ∷ rs) = if nat_le r.start from then Some (max from (r.start + r.count)) else None

-- how much is still left
abbrev pub left : List Run → List Run → List Run → Place → ℕ
left free mappings pieces at = (length free - at.span) + (length mappings - at.mapping) + (length pieces - at.piece)

-- ---- one step of the walk

abbrev pub on_piece : Place → Option ℕ → Option Place
on_piece at None = None
on_piece at (Some from) = Some (record at { from = from; piece = at.piece + 1 })

abbrev pub on_mapping : List Run → Place → Option ℕ → Option Place
on_mapping pieces at None = on_piece at (end_past at.from (drop at.piece pieces))
on_mapping pieces at (Some from) = Some (record at { from = from; mapping = at.mapping + 1 })

-- behind the free space, the reverse mapping or the piece that the block lies behind or in; None where it lies in
-- free space alone
abbrev pub stepped : Run → List Run → List Run → Place → Option Place
stepped span mappings pieces at =
    if nat_le (span.start + span.count) at.from then Some (record at { span = at.span + 1 })
    else on_mapping pieces at (end_past at.from (drop at.mapping mappings))

-- ---- what callers know of the two lists of records

-- the records of free space rise by their starts, and end within a group
abbrev pub SpansFit : List SpanRec → Type 0
SpansFit free = RunsRise (map span_run free) × EndWithin most (map span_run free)

-- the reverse mappings rise by their starts
abbrev pub MappingsRise : List RmapRec → Type 0
MappingsRise mappings = RunsRise (map blocks_of mappings)
