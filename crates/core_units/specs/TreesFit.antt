-- What lists that were derived, and btrees that were gathered, must be so that a unit can be rebuilt by them.
use Rattle.std.specs.Prelude.{◌≡◌, ℕ, ◌+◌, ◌<◌, ◌≤◌, ◌^◌, true, List, [], ◌∷◌, All, map}
use Rattle.std.specs.List.{sum_by}
use Rattle.derive_defs.specs.Mappings.{EndWithin as MappingsEnd}
use Rattle.fs_model.specs.declared.unit.Unit.{Unit as ScrubUnit}
use Rattle.fs_model.specs.declared.unit.Unit.TheVariants as units
use Rattle.fs_state.specs.State.{recs_of}
use Rattle.group_trees.specs.Trees.{reading_of}
use Rattle.group_trees.specs.declared.group.GroupTrees.{GroupTrees}
use Rattle.ino_recs.specs.Chunks.{fino_form, ino_form}
use Rattle.rmap_recs.specs.Rmap.{rmap_form}
use Rattle.run_edits.specs.Edits.{AreSorted, HasRoom}
use Rattle.run_sets.specs.Runs.{EndWithin, most}
use Rattle.sblock.specs.Blocks.{IsRising}
use Rattle.sblock.specs.Form.{Form}
use Rattle.span_recs.specs.Refcounts.{refc_form}
use Rattle.span_recs.specs.Spans.{bno_form, cnt_form}
use Rattle.span_recs.specs.declared.span.SpanRec.{SpanRec}
use Rattle.unit_plan.specs.Spans.{MappingsRise, SpansFit, span_run}
use Rattle.core_units.specs.declared.lists.Lists.{Lists}
use Rattle.core_units.specs.declared.lists.Lists.TheVariants as lists

-- ---- btrees as they were gathered

-- free space and reverse mappings rise by their starts, so that a spare block can be looked for in them
abbrev pub CanSpareBy : GroupTrees → Type 0
CanSpareBy trees = SpansFit (recs_of (reading_of trees.bno)) × MappingsRise (recs_of (reading_of trees.rmap))

-- free space and reverse mappings end within a group of this length
pub record EndInGroup (length : ℕ) (trees : GroupTrees) : Type 0 where
  pub free : EndWithin length (map span_run (recs_of (reading_of trees.bno)))
  pub mappings : MappingsEnd length (recs_of (reading_of trees.rmap))

-- ---- lists

-- these are lists of the unit
abbrev pub AreListsFor : ScrubUnit → Lists → Type 0
AreListsFor units.Inode (lists.Inode ino fino) = Unit {0}
AreListsFor units.Rmap (lists.Rmap rmap) = Unit {0}
AreListsFor units.Free (lists.Free bno cnt) = Unit {0}
AreListsFor units.Refc (lists.Refc refc) = Unit {0}
AreListsFor unit list = ⊥

-- the lists in which a spare block is looked for rise, within a group
abbrev pub CanSpare : GroupTrees → Lists → Type 0
CanSpare trees (lists.Inode ino fino) = CanSpareBy trees
CanSpare trees (lists.Rmap rmap) = CanSpareBy trees
CanSpare trees (lists.Free bno cnt) = SpansFit bno.items
CanSpare trees (lists.Refc refc) = CanSpareBy trees

-- free space from the block on: none of it is empty, and each run begins at the end of the one in front of it or behind
abbrev pub LieApart : ℕ → List SpanRec → Type 0
LieApart from [] = Unit {0}
LieApart from (r ∷ rs) = (from ≤ r.start) × (0 < r.count) × (r.start + r.count ≤ most) × LieApart (r.start + r.count) rs

-- a spare block can be taken
abbrev pub CanTake : Lists → Type 0
CanTake (lists.Inode ino fino) = Unit {0}
CanTake (lists.Rmap rmap) = AreSorted rmap.items × All HasRoom rmap.items
CanTake (lists.Free bno cnt) = LieApart 0 bno.items
CanTake (lists.Refc refc) = Unit {0}

-- the list rises, and each record's last key has a number
abbrev pub IsLoadable : {R K : Type 0} → Form R K → List R → Type 0
IsLoadable form list = IsRising form list × All (λ r. form.has_end r ≡ true) list

-- the lists can be loaded into btrees
abbrev pub AreLoadable : Lists → Type 0
AreLoadable (lists.Inode ino fino) = IsLoadable ino_form ino.items × IsLoadable fino_form fino.items
AreLoadable (lists.Rmap rmap) = IsLoadable rmap_form rmap.items
AreLoadable (lists.Free bno cnt) = IsLoadable bno_form bno.items × IsLoadable cnt_form cnt.items
AreLoadable (lists.Refc refc) = IsLoadable refc_form refc.items

-- the unit's counters can be written
abbrev pub HaveTotals : Lists → Type 0
HaveTotals (lists.Inode ino fino) = (sum_by (λ r. r.count) ino.items < 2 ^ 32) × (sum_by (λ r. r.freecount) ino.items < 2 ^ 32)
HaveTotals (lists.Rmap rmap) = Unit {0}
HaveTotals (lists.Free bno cnt) = sum_by (λ r. r.count) cnt.items < 2 ^ 32
HaveTotals (lists.Refc refc) = Unit {0}

-- all of it
pub record AreFit (list : Lists) : Type 0 where
  pub take : CanTake list
  pub loadable : AreLoadable list
  pub totals : HaveTotals list
