-- The six btrees by their units, and the owners of their blocks ("Reverse Mapping B+tree", owners).
use Rattle.std.specs.Prelude.{ℕ, List, [], ◌∷◌}
use Rattle.fs_model.specs.declared.fault.Counter.{Counter}
use Rattle.fs_model.specs.declared.fault.Counter.TheVariants.{Count, Freecount, Iblocks, Fblocks, RmapBlocks, Freeblks, Longest, Btreeblks, RefcountBlocks}
use Rattle.fs_model.specs.declared.unit.Unit.{Unit as ScrubUnit}
use Rattle.fs_model.specs.declared.unit.Unit.TheVariants as units
use Rattle.rmap_recs.specs.Owners.{number_of}
use Rattle.rmap_recs.specs.declared.owner.Owner.TheVariants.{Ag, Inobt, Refc as OfRefc}
use Rattle.sblock.specs.declared.kind.Kind.{Kind}
use Rattle.sblock.specs.declared.kind.Kind.TheVariants.{Bno, Cnt, Rmap, Refc, Ino, Fino}
use Rattle.xref_scrub.specs.Shown.{Shown, bno_shown, cnt_shown, rmap_shown, refc_shown, ino_shown, fino_shown}
use Rattle.fs_state.specs.Kinds.{RecOf}

-- in the order of a report
abbrev pub all_kinds : List Kind
all_kinds = Bno ∷ Cnt ∷ Rmap ∷ Refc ∷ Ino ∷ Fino ∷ []

-- which trees are judged together, in their order
abbrev pub kinds_of : ScrubUnit → List Kind
kinds_of units.Inode = Ino ∷ Fino ∷ []
kinds_of units.Rmap = Rmap ∷ []
kinds_of units.Free = Bno ∷ Cnt ∷ []
kinds_of units.Refc = Refc ∷ []

abbrev pub unit_of : Kind → ScrubUnit
unit_of Bno = units.Free
unit_of Cnt = units.Free
unit_of Rmap = units.Rmap
unit_of Refc = units.Refc
unit_of Ino = units.Inode
unit_of Fino = units.Inode

-- which counters are judged with them, in their order
abbrev pub counters_of : ScrubUnit → List Counter
counters_of units.Inode = Count ∷ Freecount ∷ Iblocks ∷ Fblocks ∷ []
counters_of units.Rmap = RmapBlocks ∷ []
counters_of units.Free = Freeblks ∷ Longest ∷ Btreeblks ∷ []
counters_of units.Refc = RefcountBlocks ∷ []

-- the kind to which a counter's fault belongs
abbrev pub kind_of_counter : Counter → Kind
kind_of_counter Count = Ino
kind_of_counter Freecount = Ino
kind_of_counter Iblocks = Ino
kind_of_counter Fblocks = Fino
kind_of_counter RmapBlocks = Rmap
kind_of_counter Freeblks = Bno
kind_of_counter Longest = Cnt
kind_of_counter Btreeblks = Bno
kind_of_counter RefcountBlocks = Refc

-- the owner that reverse mappings give a tree's blocks
abbrev pub tree_owner : Kind → ℕ
tree_owner Bno = number_of Ag
tree_owner Cnt = number_of Ag
tree_owner Rmap = number_of Ag
tree_owner Refc = number_of OfRefc
tree_owner Ino = number_of Inobt
tree_owner Fino = number_of Inobt

-- how a fault shows a record
abbrev pub shown_of : (k : Kind) → Shown (RecOf k)
shown_of Bno = bno_shown
shown_of Cnt = cnt_shown
shown_of Rmap = rmap_shown
shown_of Refc = refc_shown
shown_of Ino = ino_shown
shown_of Fino = fino_shown
