-- The free space that reverse mappings leave.
use Rattle.std.specs.Prelude.{◌≡◌, ◌↔◌, ℕ, Bool, false, not, List, map, sum_by}
use Rattle.std.specs.List.{list_any}
use Rattle.rmap_recs.specs.declared.records.RmapRec.{RmapRec}
use Rattle.run_sets.specs.Runs.{runs_below, AreRunsBelow}
use Rattle.run_sets.specs.declared.run.Run.{Run}
use Rattle.sblock.specs.Blocks.{AllInside}
use Rattle.sblock.specs.declared.block.Bounds.{Bounds}
use Rattle.span_recs.specs.Spans.{bno_form}
use Rattle.span_recs.specs.declared.span.SpanRec.{SpanRec}
use Rattle.derive_defs.specs.Mappings.{covers}

-- the block lies in no record
unfoldable pub is_free : List RmapRec → ℕ → Bool
is_free mappings b = not (list_any (covers b) mappings)

-- a record of free space is a run
abbrev pub run_of : SpanRec → Run
run_of r = record { start = r.start; count = r.count }

abbrev pub span_of : Run → SpanRec
span_of r = record { start = r.start; count = r.count }

-- the maximal runs of the blocks below the length that lie in no record
unfoldable pub free_space : ℕ → List RmapRec → List SpanRec
free_space length mappings = map span_of (runs_below (is_free mappings) length)

-- between two records there is a gap, and in them lie exactly the blocks below the length that
-- lie in no mapping
abbrev pub AreFree : ℕ → List RmapRec → List SpanRec → Type 0
AreFree length mappings free = AreRunsBelow (is_free mappings) length (map run_of free)

-- only one list is that
abbrev pub OnlyFree : Type 0
OnlyFree = (length : ℕ) (mappings : List RmapRec) (free : List SpanRec) → AreFree length mappings free ↔ (free ≡ free_space length mappings)

-- where block 0 lies in a mapping, the records are in the range of their btree: they begin behind that block
abbrev pub LieInside : ℕ → List RmapRec → List SpanRec → Type 0
LieInside length mappings free = is_free mappings 0 ≡ false → (bounds : Bounds) → bounds.length ≡ length → AllInside bno_form bounds free

-- how many blocks the records have together
abbrev pub block_count : List SpanRec → ℕ
block_count free = sum_by (λ r. r.count) free
