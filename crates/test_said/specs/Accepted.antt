-- Journals of sessions on small images: each leads to some state, tells the truth, and is a session's.
use Rattle.std.specs.Prelude.{◌≡◌, ℕ, false, List, [], ◌∷◌, reverse, None}
use Rattle.fs_change.specs.Choice.{extent}
use Rattle.fs_change.specs.Forget.{forgotten}
use Rattle.fs_state.specs.Faults.{faults}
use Rattle.fs_state.specs.Session.{Session, first_fallen, unit_order}
use Rattle.fs_state.specs.declared.plan.Plan.{Plan}
use Rattle.fs_state.specs.declared.plan.Plan.TheVariants.{Check, Repair}
use Rattle.fs_model.specs.declared.claim.Claim.TheVariants.{Heads, Data}
use Rattle.fs_model.specs.declared.claim.Evidence.TheVariants.{Overlap}
use Rattle.fs_model.specs.declared.entry.Entry.{Entry}
use Rattle.fs_model.specs.declared.entry.Entry.TheVariants as entries
use Rattle.fs_model.specs.declared.fault.Fault.TheVariants.{Block, Missing, Extra}
use Rattle.fs_model.specs.declared.«record».AnyRec.TheVariants as recs
use Rattle.fs_model.specs.declared.unit.Unit.{Unit as ScrubUnit}
use Rattle.fs_model.specs.declared.unit.Unit.TheVariants as units
use Rattle.fs_model.specs.declared.verdict.Reason.TheVariants.{Space, Contradiction}
use Rattle.fs_model.specs.declared.verdict.Verdict.{Verdict}
use Rattle.fs_model.specs.declared.verdict.Verdict.TheVariants.{Good, Faulty, Rebuilt, Skipped, GaveUp}
use Rattle.fs_said.specs.Said.{LeadsTruly}
use Rattle.fs_state.specs.State.{State}
use Rattle.sblock.specs.declared.block.BlockFault.TheVariants.{Checksum}
use Rattle.sblock.specs.declared.kind.Kind.{Kind}
use Rattle.sblock.specs.declared.kind.Kind.TheVariants.{Bno, Cnt, Rmap, Refc, Ino, Fino}
use Rattle.test_states.specs.Images.{ag, span, mapped as owned, chunk, inodes, mask, image_a}
use Rattle.test_states.specs.Rows.{unread_free, short_free, short_rmap, short_ino, full, on_heads}

-- a session of one group that ends with this status
abbrev pub IsAccepted : Plan → ℕ → State → List Entry → Type 0
IsAccepted plan status a es = (b : State) × LeadsTruly plan a es b × Session (unit_order 1) plan 1 1 status es

abbrev pub verdict : ScrubUnit → Verdict → Entry
verdict unit v = entries.Verdict 0 unit v

-- the first tree of a unit in these blocks, and the second in those
abbrev pub in_blocks : List ℕ → List ℕ → Kind → List ℕ
in_blocks first second Bno = first
in_blocks first second Cnt = second
in_blocks first second Rmap = first
in_blocks first second Refc = first
in_blocks first second Ino = first
in_blocks first second Fino = second

-- ---- nothing

abbrev pub NothingSaid : Type 0
NothingSaid = IsAccepted Check 2 image_a []

-- ---- checks

abbrev pub all_good : List Entry
all_good = verdict units.Inode Good ∷ verdict units.Rmap Good ∷ verdict units.Free Good ∷ verdict units.Refc Good ∷ []

-- the faults of free space, and how many
abbrev pub with_free : List Entry → ℕ → List Entry
with_free [] n = verdict units.Free (Faulty n) ∷ verdict units.Refc Good ∷ []
with_free (e ∷ es) n = e ∷ with_free es n

abbrev pub unread_root : Entry
unread_root = entries.Fault 0 units.Free (Block Bno 1 Checksum)

abbrev pub missing_free : Entry
missing_free = entries.Fault 0 units.Free (Missing (recs.Bno (span 32 224)))

abbrev pub extra_free : Entry
extra_free = entries.Fault 0 units.Free (Extra (recs.Bno (span 32 223)))

abbrev pub faulty_free : List Entry → ℕ → List Entry
faulty_free es n = verdict units.Inode Good ∷ verdict units.Rmap Good ∷ with_free es n

abbrev pub Checks : Type 0
Checks =
    IsAccepted Check 0 image_a all_good
    × IsAccepted Check 1 short_free (faulty_free (missing_free ∷ extra_free ∷ []) 2)
    × IsAccepted Check 1 unread_free (faulty_free (unread_root ∷ []) 1)
    × IsAccepted Check 1 full (faulty_free (unread_root ∷ []) 1)

abbrev pub missing_chunk : Entry
missing_chunk = entries.Fault 0 units.Rmap (Missing (recs.Rmap (owned 24 8 inodes 0)))

abbrev pub skipped_for : ScrubUnit → ScrubUnit → Entry
skipped_for unit needed = verdict unit (Skipped 0 needed)

abbrev pub CheckOfMappings : Type 0
CheckOfMappings =
    IsAccepted Check 1 short_rmap (verdict units.Inode Good ∷ missing_chunk ∷ verdict units.Rmap (Faulty 1) ∷ skipped_for units.Free units.Rmap ∷ skipped_for units.Refc units.Rmap ∷ [])

abbrev pub missing_inodes : Entry
missing_inodes = entries.Fault 0 units.Inode (Missing (recs.Ino (chunk 192 61 mask)))

abbrev pub CheckOfInodes : Type 0
CheckOfInodes =
    IsAccepted Check 1 short_ino (missing_inodes ∷ verdict units.Inode (Faulty 1) ∷ skipped_for units.Rmap units.Inode ∷ skipped_for units.Free units.Rmap ∷ skipped_for units.Refc units.Rmap ∷ [])

abbrev pub given_up : List Entry
given_up = verdict units.Inode Good ∷ verdict units.Rmap (GaveUp (Contradiction (Overlap 0 Heads (Data 195)))) ∷ skipped_for units.Free units.Rmap ∷ skipped_for units.Refc units.Rmap ∷ []

abbrev pub CheckOfHeads : Type 0
CheckOfHeads = IsAccepted Check 6 on_heads given_up × IsAccepted Repair 6 on_heads given_up

-- ---- repairs

abbrev pub RepairsOfNothing : Type 0
RepairsOfNothing = IsAccepted Repair 0 image_a all_good

abbrev pub RebuiltFreeSpace : Type 0
RebuiltFreeSpace =
    IsAccepted Repair 0 unread_free (verdict units.Inode Good ∷ verdict units.Rmap Good ∷ unread_root ∷ entries.Reserved 0 units.Free 7 false ∷ entries.Reserved 0 units.Free 8 false
    ∷ entries.Switched 0 units.Free 7 8 ∷ verdict units.Free Rebuilt ∷ entries.Reaped (extent 0 1 2) ∷ verdict units.Refc Good ∷ [])

abbrev pub RebuiltMappings : Type 0
RebuiltMappings =
    IsAccepted Repair 0 short_rmap (verdict units.Inode Good ∷ missing_chunk ∷ entries.Reserved 0 units.Rmap 7 false ∷ entries.Switched 0 units.Rmap 7 0 ∷ verdict units.Rmap Rebuilt
    ∷ entries.Reaped (extent 0 5 1) ∷ verdict units.Free Good ∷ verdict units.Refc Good ∷ [])

abbrev pub RebuiltInodes : Type 0
RebuiltInodes =
    IsAccepted Repair 0 short_ino (missing_inodes ∷ entries.Reserved 0 units.Inode 7 false ∷ entries.Reserved 0 units.Inode 8 false ∷ entries.Switched 0 units.Inode 7 8 ∷ verdict units.Inode Rebuilt
    ∷ verdict units.Rmap Good ∷ entries.Reaped (extent 0 3 2) ∷ verdict units.Free Good ∷ verdict units.Refc Good ∷ [])

abbrev pub NoBlockLeft : Type 0
NoBlockLeft = IsAccepted Repair 6 full (verdict units.Inode Good ∷ verdict units.Rmap Good ∷ unread_root ∷ verdict units.Free (GaveUp (Space 0 2)) ∷ verdict units.Refc Good ∷ [])

-- ---- why it is asked that nothing waits at the end: the same without its reaped block stands in all units, and a new session
-- finds that the old root has an owner in reverse mappings alone

abbrev pub unreaped : List Entry
unreaped = verdict units.Inode Good ∷ missing_chunk ∷ entries.Reserved 0 units.Rmap 7 false ∷ entries.Switched 0 units.Rmap 7 0 ∷ verdict units.Rmap Rebuilt ∷ verdict units.Free Good ∷ verdict units.Refc Good ∷ []

abbrev pub LeftInLimbo : Type 0
LeftInLimbo =
    (b : State) × LeadsTruly Repair short_rmap unreaped b × Session (unit_order 1) Repair 1 1 0 unreaped × (first_fallen (reverse unreaped) (unit_order 1) ≡ None)
    × (faults (forgotten b) 0 units.Rmap ≡ Extra (recs.Rmap (owned 5 1 ag 0)) ∷ [])
