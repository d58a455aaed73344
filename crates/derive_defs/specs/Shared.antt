-- The blocks that several files share.
use Rattle.std.specs.Prelude.{◌≡◌, ◌↔◌, ℕ, ◌<◌, Bool, ◌&&◌, List, map, min}
use Rattle.std.specs.List.{count_by}
use Rattle.rmap_recs.specs.Rmap.{is_shareable}
use Rattle.rmap_recs.specs.declared.records.RmapRec.{RmapRec}
use Rattle.run_sets.specs.Runs.{most}
use Rattle.run_sets.specs.Stretches.{AreStretchesBelow, at_least, stretches}
use Rattle.run_sets.specs.declared.run.Run.{Run}
use Rattle.span_recs.specs.declared.refcount.RefcRec.{RefcRec}
use Rattle.sblock.specs.Blocks.{AllInside}
use Rattle.sblock.specs.declared.block.Bounds.{Bounds}
use Rattle.span_recs.specs.Refcounts.{refc_form}
use Rattle.derive_defs.specs.Mappings.{EndWithin, covers}

-- the record gives the block to a file, and others may have it too
abbrev pub shares : ℕ → RmapRec → Bool
shares b r = is_shareable r && covers b r

-- in how many shareable records the block lies; a number above 4,294,967,295 counts as that one
unfoldable pub sharers : List RmapRec → ℕ → ℕ
sharers mappings b = min (count_by (shares b) mappings) most

-- a record of reference counts is a run of blocks with a number
abbrev pub stretch_of : RefcRec → Run × ℕ
stretch_of r = (record { start = r.start; count = r.count }, r.refcount)

abbrev pub refc_of : Run × ℕ → RefcRec
refc_of s = record { start = s.0.start; count = s.0.count; refcount = s.1 }

-- the maximal runs of blocks that lie in equally many, at least two, shareable records, with that number
unfoldable pub shared_space : List RmapRec → List RefcRec
shared_space mappings = map refc_of (stretches (sharers mappings) 2 most)

-- no two records that touch have one number, and in them lie exactly the blocks that at least two
-- shareable records have, each with that number
abbrev pub AreShared : List RmapRec → List RefcRec → Type 0
AreShared mappings recs = AreStretchesBelow (at_least 2 (sharers mappings)) most (map stretch_of recs)

-- only one list is that
abbrev pub OnlyShared : Type 0
OnlyShared = (mappings : List RmapRec) (recs : List RefcRec) → AreShared mappings recs ↔ (recs ≡ shared_space mappings)

-- where block 0 isn't shared, the records are in the range of their btree: they begin behind that block
abbrev pub ShareInside : List RmapRec → List RefcRec → Type 0
ShareInside mappings recs = sharers mappings 0 < 2 → (bounds : Bounds) → EndWithin bounds.length mappings → AllInside refc_form bounds recs
