-- What a new session finds where a repair was cut off, and that it leads to an image without faults; and a repair that
-- gives up.
use Rattle.std.specs.Prelude.{◌≡◌, ◌^◌, false, List, [], ◌∷◌, Some, None}
use Rattle.fs_model.specs.declared.claim.Claim.TheVariants.{Heads, Data}
use Rattle.fs_model.specs.declared.claim.Evidence.TheVariants.{Overlap}
use Rattle.fs_model.specs.declared.entry.Entry.{Entry}
use Rattle.fs_model.specs.declared.entry.Entry.TheVariants as entries
use Rattle.fs_model.specs.declared.fault.Fault.{Fault}
use Rattle.fs_model.specs.declared.fault.Fault.TheVariants.{Block, Missing, Extra}
use Rattle.fs_model.specs.declared.«record».AnyRec.TheVariants as recs
use Rattle.fs_model.specs.declared.unit.Unit.TheVariants as units
use Rattle.fs_model.specs.declared.verdict.Reason.TheVariants.{Space, Contradiction}
use Rattle.fs_model.specs.declared.verdict.Verdict.{Verdict}
use Rattle.fs_model.specs.declared.verdict.Verdict.TheVariants.{Good, Rebuilt, GaveUp, Skipped}
use Rattle.sblock.specs.declared.block.BlockFault.TheVariants.{Checksum}
use Rattle.sblock.specs.declared.kind.Kind.TheVariants.{Bno, Cnt, Rmap, Refc}
use Rattle.fs_state.specs.State.{State, Readable, Unreadable}
use Rattle.fs_state.specs.Contradiction.{evidence}
use Rattle.fs_state.specs.Faults.{faults}
use Rattle.fs_state.specs.Laws.{EachTree}
use Rattle.fs_state.specs.Records.{all_kinds}
use Rattle.fs_change.specs.Changes.{marked, judged, reserved, reaped}
use Rattle.fs_change.specs.Choice.{extent, spare_block}
use Rattle.fs_change.specs.Forget.{Forget, forgotten}
use Rattle.fs_change.specs.Parts.{in_group, change_tree, records_in}
use Rattle.fs_change.specs.Run.{Leads}
use Rattle.fs_change.specs.Switch.{need, switched}
use Rattle.test_states.specs.Images.{span, mapped as owned, ag, inodes, free_a}
use Rattle.test_states.specs.Rows.{full, on_heads}
use Rattle.test_changes.specs.Files.{cut_off}
use Rattle.test_changes.specs.Repairs.{in_blocks, free_reserved, rmap_reserved, rmap_rebuilt, rmap_reaped}

-- ---- a file maps the block of the heads: nothing is rebuilt, and nothing is written

abbrev pub judged_good : State
judged_good = judged 0 units.Inode Good on_heads

abbrev pub on_block_zero : Verdict
on_block_zero = GaveUp (Contradiction (Overlap 0 Heads (Data 195)))

abbrev pub one_given_up : State
one_given_up = judged 0 units.Rmap on_block_zero judged_good

abbrev pub given_up : State
given_up = judged 0 units.Refc (Skipped 0 units.Rmap) (judged 0 units.Free (Skipped 0 units.Rmap) one_given_up)

abbrev pub GivenUpWhole : Type 0
GivenUpWhole =
    (evidence judged_good 0 units.Rmap ≡ Some (Overlap 0 Heads (Data 195)))
    × Leads on_heads (entries.Verdict 0 units.Inode Good ∷ entries.Verdict 0 units.Rmap on_block_zero ∷ entries.Verdict 0 units.Free (Skipped 0 units.Rmap) ∷ entries.Verdict 0 units.Refc (Skipped 0 units.Rmap) ∷ []) given_up
    × EachTree (λ k. ((given_up.group 0).tree k).reading ≡ ((on_heads.group 0).tree k).reading) all_kinds
    × ((given_up.group 0).free_list ≡ (on_heads.group 0).free_list)

-- ---- a crash in the switch of free space: the old root stands, or the new one does, whole

abbrev pub free_switched : State
free_switched = switched free_reserved 0 units.Free (in_blocks (7 ∷ []) (8 ∷ []))

abbrev pub EitherRoot : Type 0
EitherRoot =
    Forget free_reserved (forgotten free_reserved)
    × Forget free_switched (forgotten free_switched)
    × ((((forgotten free_reserved).group 0).tree Bno).reading ≡ Unreadable 1 Checksum (1 ∷ []))
    × ((((forgotten free_reserved).group 0).tree Cnt).reading ≡ Readable free_a (2 ∷ []))
    × ((((forgotten free_switched).group 0).tree Bno).reading ≡ Readable free_a (7 ∷ []))
    × ((((forgotten free_switched).group 0).tree Cnt).reading ≡ Readable free_a (8 ∷ []))

-- a tree that couldn't be read doesn't lose the block that it claimed
abbrev pub without_claims : State
without_claims = in_group 0 (λ p. change_tree Bno (λ i. record i { reading = Unreadable 1 Checksum [] }) p) (forgotten free_reserved)

abbrev pub ClaimsKept : Type 0
ClaimsKept = Forget free_reserved without_claims → ⊥

-- ---- a rebuild of reverse mappings, cut off after its block was reserved, after its switch, and after reaping: a session
-- that follows repairs what is left, and a check behind it finds nothing

abbrev pub NoFaults : State → Type 0
NoFaults a = (faults a 0 units.Inode ≡ []) × (faults a 0 units.Rmap ≡ []) × (faults a 0 units.Free ≡ []) × (records_in (a.group 0) Refc ≡ [])

-- the session rebuilds them in block 8; blocks 5 and 7 are lost then
abbrev pub again_reserved : State → State
again_reserved a = reserved [] 0 units.Rmap 8 false (marked 0 Rmap a)

abbrev pub again_rebuilt : State → State
again_rebuilt a = judged 0 units.Rmap Rebuilt (switched (again_reserved a) 0 units.Rmap (in_blocks (8 ∷ []) []))

abbrev pub again_reaped : State → State
again_reaped a = reaped [] ag (extent 0 7 1) (reaped [] ag (extent 0 5 1) (again_rebuilt a))

abbrev pub again_entries : Fault → List Entry
again_entries fault = entries.Fault 0 units.Rmap fault ∷ entries.Reserved 0 units.Rmap 8 false ∷ entries.Switched 0 units.Rmap 8 0 ∷ entries.Verdict 0 units.Rmap Rebuilt ∷ entries.Reaped (extent 0 5 1) ∷ entries.Reaped (extent 0 7 1) ∷ []

abbrev pub cut_reserved : State
cut_reserved = forgotten rmap_reserved

abbrev pub cut_switched : State
cut_switched = forgotten rmap_rebuilt

abbrev pub CutReserved : Type 0
CutReserved =
    (faults cut_reserved 0 units.Rmap ≡ Extra (recs.Rmap (owned 7 12 ag 0)) ∷ Missing (recs.Rmap (owned 8 11 ag 0)) ∷ Missing (recs.Rmap (owned 24 8 inodes 0)) ∷ [])
    × (records_in (cut_reserved.group 0) Bno ≡ free_a)
    × Leads cut_reserved (again_entries (Missing (recs.Rmap (owned 24 8 inodes 0)))) (again_reaped cut_reserved)
    × (records_in ((again_reaped cut_reserved).group 0) Bno ≡ span 5 1 ∷ span 7 1 ∷ free_a)
    × NoFaults (again_reaped cut_reserved)

abbrev pub CutSwitched : Type 0
CutSwitched =
    (faults cut_switched 0 units.Rmap ≡ Extra (recs.Rmap (owned 5 1 ag 0)) ∷ [])
    × Leads cut_switched (again_entries (Extra (recs.Rmap (owned 5 1 ag 0)))) (again_reaped cut_switched)
    × (records_in ((again_reaped cut_switched).group 0) Bno ≡ span 5 1 ∷ span 7 1 ∷ free_a)
    × NoFaults (again_reaped cut_switched)
    × NoFaults (forgotten rmap_reaped)

-- ---- a crash after an unmapping's fork: reverse mappings are rebuilt, and the run is limbo and then free

abbrev pub cut_unmapped : State
cut_unmapped = forgotten cut_off

abbrev pub unmapped_reserved : State
unmapped_reserved = reserved [] 0 units.Rmap 7 false (marked 0 Rmap cut_unmapped)

abbrev pub unmapped_rebuilt : State
unmapped_rebuilt = judged 0 units.Rmap Rebuilt (switched unmapped_reserved 0 units.Rmap (in_blocks (7 ∷ []) []))

abbrev pub unmapped_reaped : State
unmapped_reaped = reaped [] ag (extent 0 32 6) (reaped [] ag (extent 0 5 1) unmapped_rebuilt)

abbrev pub CutRun : Type 0
CutRun =
    (faults cut_unmapped 0 units.Rmap ≡ Extra (recs.Rmap (owned 32 6 195 (2 ^ 61))) ∷ [])
    × Leads cut_unmapped (entries.Fault 0 units.Rmap (Extra (recs.Rmap (owned 32 6 195 (2 ^ 61)))) ∷ entries.Reserved 0 units.Rmap 7 false ∷ entries.Switched 0 units.Rmap 7 0 ∷ entries.Verdict 0 units.Rmap Rebuilt ∷ entries.Reaped (extent 0 5 1) ∷ entries.Reaped (extent 0 32 6) ∷ []) unmapped_reaped
    × (records_in (unmapped_reaped.group 0) Bno ≡ span 5 1 ∷ span 19 5 ∷ span 32 224 ∷ [])
    × NoFaults unmapped_reaped

-- ---- no block is left for a rebuild: it is given up, with what it has and what it would need

abbrev pub nothing_left : State
nothing_left = judged 0 units.Free (GaveUp (Space 0 2)) (marked 0 Bno full)

abbrev pub GivenUpSpace : Type 0
GivenUpSpace =
    (faults full 0 units.Free ≡ Block Bno 1 Checksum ∷ []) × (need (marked 0 Bno full) 0 units.Free ≡ 2) × (spare_block (marked 0 Bno full) 0 units.Free ≡ None) × ((full.group 0).free_list ≡ [])
    × Leads full (entries.Fault 0 units.Free (Block Bno 1 Checksum) ∷ entries.Verdict 0 units.Free (GaveUp (Space 0 2)) ∷ []) nothing_left
