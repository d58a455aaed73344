-- Entries that don't tell the truth, behind entries that do.
use Rattle.std.specs.Prelude.{ℕ, false, List, [], ◌∷◌, ⊤}
use Rattle.fs_change.specs.Changes.{judged, marked, reserved}
use Rattle.fs_state.specs.Faults.{kind_of_fault}
use Rattle.fs_state.specs.declared.plan.Plan.{Plan}
use Rattle.fs_state.specs.declared.plan.Plan.TheVariants.{Check, Repair, Rebuild}
use Rattle.fs_model.specs.declared.claim.Claim.TheVariants.{Heads, Data}
use Rattle.fs_model.specs.declared.claim.Evidence.TheVariants.{Overlap}
use Rattle.fs_model.specs.declared.entry.Entry.{Entry}
use Rattle.fs_model.specs.declared.entry.Entry.TheVariants as entries
use Rattle.fs_model.specs.declared.fault.Counter.TheVariants.{Longest}
use Rattle.fs_model.specs.declared.fault.Fault.TheVariants.{Counter, Missing}
use Rattle.fs_model.specs.declared.«record».AnyRec.TheVariants as recs
use Rattle.fs_model.specs.declared.unit.Unit.TheVariants as units
use Rattle.fs_model.specs.declared.verdict.Reason.TheVariants.{Space, Contradiction}
use Rattle.fs_model.specs.declared.verdict.Verdict.TheVariants.{Good, Faulty, Rebuilt, Skipped, GaveUp}
use Rattle.fs_said.specs.Said.{IsSaid, Told, nothing_told, told_after}
use Rattle.fs_state.specs.State.{State}
use Rattle.test_states.specs.Images.{shared, image_a}
use Rattle.test_states.specs.Rows.{unread_free, short_free, short_longest, short_rmap, short_ino, full}
use Rattle.test_said.specs.Accepted.{verdict, all_good, unread_root, missing_free, extra_free, missing_chunk, missing_inodes}

-- the states that faults, verdicts and reserved blocks of the list decide, and what is told of them
abbrev pub decided : Entry → State → State
decided (entries.Fault g unit fault) a = marked g (kind_of_fault fault) a
decided (entries.Verdict g unit v) a = judged g unit v a
decided (entries.Reserved g unit b spare) a = reserved [] g unit b spare a
decided e a = a

abbrev pub state_after : State → List Entry → State
state_after a [] = a
state_after a (e ∷ es) = state_after (decided e a) es

abbrev pub told_by : State → Told → List Entry → Told
told_by a t [] = t
told_by a t (e ∷ es) = told_by (decided e a) (told_after a e t) es

-- behind these entries on the image, under the plan, this entry isn't said
abbrev pub Row : Type 0
Row = Plan × State × List Entry × Entry

abbrev pub AreRefused : List Row → Type 0
AreRefused [] = ⊤
AreRefused (row ∷ rows) = (IsSaid row.0 (state_after row.1 row.2) (told_by row.1 nothing_told row.2) row.3 → ⊥) × AreRefused rows

abbrev pub two_good : List Entry
two_good = verdict units.Inode Good ∷ verdict units.Rmap Good ∷ []

abbrev pub and_fault : Entry → List Entry
and_fault e = verdict units.Inode Good ∷ verdict units.Rmap Good ∷ e ∷ []

-- ---- why a unit is given up

abbrev pub out_of_space : ℕ → ℕ → Entry
out_of_space have need = verdict units.Free (GaveUp (Space have need))

abbrev pub FalseCauses : Type 0
FalseCauses =
    AreRefused (
    -- free space that always gives up: nothing was said of it
    (Repair, image_a, two_good, out_of_space 0 1)
    -- a fault is left to say
    ∷ (Repair, unread_free, two_good, out_of_space 0 2)
    -- the list has blocks, whatever the plan
    ∷ (Repair, unread_free, and_fault unread_root, out_of_space 0 2)
    ∷ (Rebuild, image_a, two_good, out_of_space 0 2)
    -- other numbers
    ∷ (Repair, full, and_fault unread_root, out_of_space 1 2)
    ∷ (Repair, full, and_fault unread_root, out_of_space 0 3)
    -- claims that don't meet
    ∷ (Repair, image_a, verdict units.Inode Good ∷ [], verdict units.Rmap (GaveUp (Contradiction (Overlap 0 Heads (Data 195)))))
    ∷ []
    )

-- ---- what is rebuilt

abbrev pub Unmade : Type 0
Unmade =
    AreRefused (
    -- rebuilt without a switch, at once and behind a reserved block
    (Rebuild, image_a, [], verdict units.Inode Rebuilt)
    ∷ (Repair, short_ino, missing_inodes ∷ entries.Reserved 0 units.Inode 7 false ∷ [], verdict units.Inode Rebuilt)
    -- another entry behind a switch, and the verdict of another unit
    ∷ (Repair, short_ino, missing_inodes ∷ entries.Switched 0 units.Inode 7 8 ∷ [], verdict units.Rmap Rebuilt)
    ∷ (Repair, short_ino, missing_inodes ∷ entries.Switched 0 units.Inode 7 8 ∷ [], entries.Released 0 units.Inode)
    -- rebuilt by a check
    ∷ (Check, short_ino, missing_inodes ∷ [], entries.Reserved 0 units.Inode 7 false)
    ∷ (Check, short_ino, missing_inodes ∷ [], entries.Switched 0 units.Inode 7 8)
    -- rebuilt by a repair though nothing was said of it
    ∷ (Repair, image_a, [], entries.Reserved 0 units.Inode 7 false)
    ∷ []
    )

-- ---- faults

abbrev pub shared_thirty_two : Entry
shared_thirty_two = entries.Fault 0 units.Refc (Missing (recs.Refc (shared 32 1 2)))

abbrev pub wrong_longest : Entry
wrong_longest = entries.Fault 0 units.Free (Counter Longest 223 224)

abbrev pub FalseFaults : Type 0
FalseFaults =
    AreRefused (
    -- behind the last verdict
    (Check, image_a, all_good, shared_thirty_two)
    -- said twice
    ∷ (Check, short_longest, and_fault wrong_longest, wrong_longest)
    ∷ (Check, short_free, and_fault missing_free, missing_free)
    -- out of order
    ∷ (Check, short_free, two_good, extra_free)
    ∷ []
    )

-- ---- good

abbrev pub FalseGoods : Type 0
FalseGoods =
    AreRefused (
    -- a fault is left
    (Check, short_longest, two_good, verdict units.Free Good)
    -- it was said
    ∷ (Check, short_longest, and_fault wrong_longest, verdict units.Free Good)
    ∷ []
    )

-- ---- how many

abbrev pub FalseCounts : Type 0
FalseCounts =
    AreRefused (
    (Check, short_longest, and_fault wrong_longest, verdict units.Free (Faulty 2))
    ∷ (Check, short_longest, and_fault wrong_longest, verdict units.Free (Faulty 0))
    -- not all were said
    ∷ (Check, short_free, and_fault missing_free, verdict units.Free (Faulty 1))
    -- there is none
    ∷ (Check, image_a, [], verdict units.Inode (Faulty 0))
    ∷ []
    )

-- ---- what must stand before

abbrev pub NotReady : Type 0
NotReady =
    AreRefused (
    -- no verdict on inodes
    (Check, image_a, [], verdict units.Rmap Good)
    -- mappings are faulty
    ∷ (Check, short_rmap, verdict units.Inode Good ∷ missing_chunk ∷ verdict units.Rmap (Faulty 1) ∷ [], verdict units.Refc Good)
    ∷ (Check, unread_free, verdict units.Inode Good ∷ [], unread_root)
    -- it was begun, so it isn't skipped
    ∷ (Check, short_longest, and_fault wrong_longest, verdict units.Free (Skipped 0 units.Rmap))
    ∷ []
    )
