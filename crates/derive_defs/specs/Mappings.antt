-- The blocks of reverse mappings.
use Rattle.std.specs.Prelude.{ℕ, Bool, List, [], ◌∷◌, ◌+◌, ◌≤◌}
use Rattle.rmap_recs.specs.Rmap.{rmap_form}
use Rattle.rmap_recs.specs.declared.records.RmapRec.{RmapRec}
use Rattle.run_sets.specs.Runs.{is_within}
use Rattle.run_sets.specs.declared.run.Run.{Run}
use Rattle.sblock.specs.Blocks.{IsRising, AllInside}
use Rattle.sblock.specs.declared.block.Bounds.{Bounds}

-- no record begins before the one in front of it
abbrev pub StartsRise : List RmapRec → Type 0
StartsRise [] = Unit {0}
StartsRise (r ∷ []) = Unit {0}
StartsRise (r ∷ s ∷ rs) = (r.start ≤ s.start) × StartsRise (s ∷ rs)

-- no record ends behind the length
abbrev pub EndWithin : ℕ → List RmapRec → Type 0
EndWithin length [] = Unit {0}
EndWithin length (r ∷ rs) = (r.start + r.count ≤ length) × EndWithin length rs

-- a record's blocks
abbrev pub blocks_of : RmapRec → Run
blocks_of r = record { start = r.start; count = r.count }

-- the block lies in the record
abbrev pub covers : ℕ → RmapRec → Bool
covers b r = is_within b (blocks_of r)

-- records in the order and the range of their btree do so, and end within any greater length too
abbrev pub MappingsFit : Type 0
MappingsFit = (bounds : Bounds) (further : ℕ) (mappings : List RmapRec) → bounds.length ≤ further → IsRising rmap_form mappings → AllInside rmap_form bounds mappings
    → StartsRise mappings × EndWithin bounds.length mappings × EndWithin further mappings
