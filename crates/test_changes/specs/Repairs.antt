-- Rebuilds of small images, entry by entry: the blocks reserved, the switch, and what is reaped.
use Rattle.std.specs.Prelude.{◌≡◌, ℕ, false, List, [], ◌∷◌, None}
use Rattle.fs_model.specs.declared.entry.Entry.TheVariants as entries
use Rattle.fs_model.specs.declared.fault.Counter.TheVariants.{Freeblks}
use Rattle.fs_model.specs.declared.fault.Fault.TheVariants.{Block, Missing}
use Rattle.fs_model.specs.declared.«record».AnyRec.TheVariants as recs
use Rattle.fs_model.specs.declared.unit.Unit.TheVariants as units
use Rattle.fs_model.specs.declared.verdict.Verdict.TheVariants.{Good, Rebuilt}
use Rattle.sblock.specs.declared.block.BlockFault.TheVariants.{Checksum}
use Rattle.sblock.specs.declared.kind.Kind.{Kind}
use Rattle.sblock.specs.declared.kind.Kind.TheVariants.{Bno, Cnt, Rmap, Refc, Ino, Fino}
use Rattle.fs_state.specs.State.{State}
use Rattle.fs_state.specs.Faults.{faults}
use Rattle.fs_state.specs.Lists.{numbers}
use Rattle.fs_change.specs.Changes.{marked, judged, reserved, reaped}
use Rattle.fs_change.specs.Choice.{extent, spare_block}
use Rattle.fs_change.specs.Loose.{tree_blocks}
use Rattle.fs_change.specs.Parts.{records_in}
use Rattle.fs_change.specs.Run.{Leads}
use Rattle.fs_change.specs.Switch.{need, need_of, switched}
use Rattle.test_states.specs.Images.{span, mapped as owned, chunk, fs, ag, inobt, inodes, refc, mask, free_a, mappings_a}
use Rattle.test_states.specs.Rows.{unread_free, short_rmap, short_ino, full}

-- ---- free space: its trees go to blocks 7 and 8, and the old roots, 1 and 2, are freed

-- the first tree of a unit in these blocks, and the second in those
abbrev pub in_blocks : List ℕ → List ℕ → Kind → List ℕ
in_blocks first second Bno = first
in_blocks first second Cnt = second
in_blocks first second Rmap = first
in_blocks first second Refc = first
in_blocks first second Ino = first
in_blocks first second Fino = second

abbrev pub free_reserved : State
free_reserved = reserved [] 0 units.Free 8 false (reserved [] 0 units.Free 7 false (marked 0 Bno (judged 0 units.Rmap Good (judged 0 units.Inode Good unread_free))))

abbrev pub free_rebuilt : State
free_rebuilt = judged 0 units.Free Rebuilt (switched free_reserved 0 units.Free (in_blocks (7 ∷ []) (8 ∷ [])))

abbrev pub free_reaped : State
free_reaped = reaped [] ag (extent 0 1 2) free_rebuilt

abbrev pub RebuiltFreeSpace : Type 0
RebuiltFreeSpace =
    (need unread_free 0 units.Free ≡ 2)
    × Leads unread_free (entries.Verdict 0 units.Inode Good ∷ entries.Verdict 0 units.Rmap Good ∷ entries.Fault 0 units.Free (Block Bno 1 Checksum) ∷ entries.Reserved 0 units.Free 7 false ∷ entries.Reserved 0 units.Free 8 false ∷ entries.Switched 0 units.Free 7 8 ∷ entries.Verdict 0 units.Free Rebuilt ∷ entries.Reaped (extent 0 1 2) ∷ []) free_reaped
    × (records_in (free_rebuilt.group 0) Bno ≡ free_a)
    × (records_in (free_reaped.group 0) Bno ≡ span 1 2 ∷ free_a)
    × ((free_reaped.group 0).counters Freeblks ≡ 231)
    × ((free_reaped.group 0).free_list ≡ numbers 9 10)
    × (records_in (free_reaped.group 0) Rmap ≡ owned 0 1 fs 0 ∷ owned 3 2 inobt 0 ∷ owned 5 1 ag 0 ∷ owned 6 1 refc 0 ∷ owned 7 12 ag 0 ∷ owned 24 8 inodes 0 ∷ [])
    × (faults free_reaped 0 units.Inode ≡ []) × (faults free_reaped 0 units.Rmap ≡ []) × (faults free_reaped 0 units.Free ≡ [])

-- ---- reverse mappings: the tree goes to block 7, and the old root, block 5, is freed

abbrev pub rmap_reserved : State
rmap_reserved = reserved [] 0 units.Rmap 7 false (marked 0 Rmap short_rmap)

abbrev pub rmap_rebuilt : State
rmap_rebuilt = judged 0 units.Rmap Rebuilt (switched rmap_reserved 0 units.Rmap (in_blocks (7 ∷ []) []))

abbrev pub rmap_reaped : State
rmap_reaped = reaped [] ag (extent 0 5 1) rmap_rebuilt

abbrev pub RebuiltMappings : Type 0
RebuiltMappings =
    (need short_rmap 0 units.Rmap ≡ 1)
    × Leads short_rmap (entries.Fault 0 units.Rmap (Missing (recs.Rmap (owned 24 8 inodes 0))) ∷ entries.Reserved 0 units.Rmap 7 false ∷ entries.Switched 0 units.Rmap 7 0 ∷ entries.Verdict 0 units.Rmap Rebuilt ∷ entries.Reaped (extent 0 5 1) ∷ []) rmap_reaped
    × (records_in (rmap_rebuilt.group 0) Rmap ≡ mappings_a)
    × (tree_blocks (rmap_rebuilt.group 0) Rmap ≡ 7 ∷ [])
    × (records_in (rmap_reaped.group 0) Bno ≡ span 5 1 ∷ free_a)
    × (faults rmap_reaped 0 units.Inode ≡ []) × (faults rmap_reaped 0 units.Rmap ≡ []) × (faults rmap_reaped 0 units.Free ≡ [])

-- ---- inode btrees: they go to blocks 7 and 8, which have their owner at once; the old roots are freed once reverse
-- mappings were found good

abbrev pub ino_reserved : State
ino_reserved = reserved [] 0 units.Inode 8 false (reserved [] 0 units.Inode 7 false (marked 0 Ino short_ino))

abbrev pub ino_rebuilt : State
ino_rebuilt = judged 0 units.Inode Rebuilt (switched ino_reserved 0 units.Inode (in_blocks (7 ∷ []) (8 ∷ [])))

abbrev pub ino_reaped : State
ino_reaped = reaped [] inobt (extent 0 3 2) (judged 0 units.Rmap Good ino_rebuilt)

abbrev pub RebuiltInodes : Type 0
RebuiltInodes =
    (need short_ino 0 units.Inode ≡ 2)
    × Leads short_ino (entries.Fault 0 units.Inode (Missing (recs.Ino (chunk 192 61 mask))) ∷ entries.Reserved 0 units.Inode 7 false ∷ entries.Reserved 0 units.Inode 8 false ∷ entries.Switched 0 units.Inode 7 8 ∷ entries.Verdict 0 units.Inode Rebuilt ∷ entries.Verdict 0 units.Rmap Good ∷ entries.Reaped (extent 0 3 2) ∷ []) ino_reaped
    × (records_in (ino_rebuilt.group 0) Rmap ≡ owned 0 1 fs 0 ∷ owned 1 2 ag 0 ∷ owned 3 2 inobt 0 ∷ owned 5 1 ag 0 ∷ owned 6 1 refc 0 ∷ owned 7 2 inobt 0 ∷ owned 9 10 ag 0 ∷ owned 24 8 inodes 0 ∷ [])
    × (records_in (ino_reaped.group 0) Bno ≡ span 3 2 ∷ free_a)
    × (faults ino_reaped 0 units.Inode ≡ []) × (faults ino_reaped 0 units.Rmap ≡ []) × (faults ino_reaped 0 units.Free ≡ [])

-- ---- no block is left to take

abbrev pub NoBlockLeft : Type 0
NoBlockLeft = (need full 0 units.Free ≡ 2) × (spare_block full 0 units.Free ≡ None)

-- ---- how many blocks a new tree has

abbrev pub TreeSizes : Type 0
TreeSizes = (need_of Bno 0 ≡ 1) × (need_of Bno 505 ≡ 1) × (need_of Bno 506 ≡ 3) × (need_of Rmap 168 ≡ 1) × (need_of Rmap 169 ≡ 3) × (need_of Ino 252 ≡ 1) × (need_of Refc 169680 ≡ 506) × (need_of Refc 169681 ≡ 509)
