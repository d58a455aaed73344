-- Which entry of a repair ends or makes what is known of which unit of a group.
use Rattle.std.specs.Prelude.{◌≡◌, ◌==◌, ◌/◌, ◌<◌, ◌&&◌, ◌||◌, ℕ, Bool, true, false, not, List, [], if◌then◌else◌}
use Rattle.std.specs.List.{list_any}
use Rattle.fs_change.specs.Edited.{group_of_entry}
use Rattle.fs_change.specs.Forget.{Forget}
use Rattle.fs_change.specs.Step.{Step}
use Rattle.fs_state.specs.Faults.{faults}
use Rattle.fs_model.specs.declared.entry.Entry.{Entry}
use Rattle.fs_model.specs.declared.entry.Entry.TheVariants as entries
use Rattle.fs_model.specs.declared.unit.Unit.{Unit as ScrubUnit}
use Rattle.fs_model.specs.declared.unit.Unit.TheVariants as units
use Rattle.fs_model.specs.declared.verdict.Verdict.TheVariants as verdicts
use Rattle.fs_state.specs.Apart.{is_chunk}
use Rattle.fs_state.specs.Group.{is_among}
use Rattle.fs_state.specs.State.{State, Group, is_readable}
use Rattle.geom.specs.Apart.{HasFitting}
use Rattle.sblock.specs.declared.kind.Kind.{Kind}
use Rattle.sblock.specs.declared.kind.Kind.TheVariants.{Ino, Fino}
use Rattle.law_repairs.specs.Repair.Ends.{IsDone}
use Rattle.law_repairs.specs.Repair.Kept.{IsTrue}
use Rattle.law_repairs.specs.Repair.Letters.{IsTrusted, Stands}
use Rattle.law_repairs.specs.Repair.Made.{CanBeMade}
use Rattle.law_repairs.specs.Repair.Moves.{SameChunks, is_beside}
use Rattle.law_repairs.specs.Move.Order.{IsInOrder}
use Rattle.law_repairs.specs.Reserve.Reserving.{ends_known, kept_by_edits}

-- The letters of a group: of which units is it known that, where their trees are trusted, they hold what they should? No
-- state tells: free space and reverse mappings have the same owner, and a released reserve says nothing.
abbrev pub Letters : Type 0
Letters = ScrubUnit → Bool

abbrev pub AreKnown : State → ℕ → Letters → Type 0
AreKnown a g letters = (unit : ScrubUnit) → letters unit ≡ true → Stands a g unit

abbrev pub is_same_unit : ScrubUnit → ScrubUnit → Bool
is_same_unit units.Inode units.Inode = true
is_same_unit units.Rmap units.Rmap = true
is_same_unit units.Free units.Free = true
is_same_unit units.Refc units.Refc = true
is_same_unit own unit = false

-- What does the switch of the first unit leave of the second? New reverse mappings end what is read off them; new inode
-- btrees leave reverse mappings where the old ones could be read, so that their blocks wait in limbo.
abbrev pub outlasts : Group → ScrubUnit → ScrubUnit → Bool
outlasts p units.Inode units.Rmap = is_readable (p.tree Ino).reading && is_readable (p.tree Fino).reading
outlasts p units.Free units.Rmap = true
outlasts p units.Refc units.Rmap = true
outlasts p own unit = is_beside own unit

-- free space that gains a run rests on the reverse mappings
abbrev pub rests : Letters → ScrubUnit → Bool
rests letters units.Free = letters units.Rmap
rests letters unit = true

-- none of the trees whose edits keep the unit was left
abbrev pub are_made : List Kind → ScrubUnit → Bool
are_made left unit = not (list_any (λ k. is_among k left) (kept_by_edits unit))

-- Which letters of its own group does an entry leave? A good verdict and a switch make their unit's. What a spare block of a
-- rebuild ended comes back by these alone, not by a release. A mark ends none by itself: its tree is trusted no more. Of
-- what writers do nothing is said.
abbrev pub own_letters : State → List Kind → Entry → Letters → Letters
own_letters a left (entries.Marked g k cause) letters unit = letters unit
own_letters a left (entries.Fault g own fault) letters unit = letters unit
own_letters a left (entries.Verdict g own verdicts.Good) letters unit = is_same_unit own unit || letters unit
own_letters a left (entries.Verdict g own verdict) letters unit = letters unit
own_letters a left (entries.Reply writer line code done refused begun) letters unit = letters unit
own_letters a left (entries.Released g own) letters unit = letters unit
own_letters a left (entries.Reserved g own block spare) letters unit = letters unit && (not (ends_known own spare unit) && are_made left unit)
own_letters a left (entries.Switched g own root second) letters unit = is_same_unit own unit || (letters unit && outlasts (a.group g) own unit)
own_letters a left (entries.Reaped e) letters unit = letters unit && (rests letters unit && are_made left unit)
own_letters a left e letters unit = false

-- what a repair enters
abbrev pub is_of_repair : Entry → Bool
is_of_repair (entries.Marked g k cause) = true
is_of_repair (entries.Fault g own fault) = true
is_of_repair (entries.Verdict g own verdict) = true
is_of_repair (entries.Reply writer line code done refused begun) = true
is_of_repair (entries.Released g own) = true
is_of_repair (entries.Reserved g own block spare) = true
is_of_repair (entries.Switched g own root second) = true
is_of_repair (entries.Reaped e) = true
is_of_repair e = false

-- of another group it leaves all
abbrev pub letters_after : State → List Kind → Entry → ℕ → Letters → Letters
letters_after a left e h letters unit = if h == group_of_entry a e then own_letters a left e letters unit else is_of_repair e && letters unit

-- What has an event to know for that? A unit that is called good holds; a reserved block is of no chunk, chunks stay, and
-- the group is in order before and behind; a switch can make its unit.
abbrev pub Facts : (a b : State) (left : List Kind) (e : Entry) → Step a left e b → Type 0
Facts a b left (entries.Verdict g own verdict) s = IsTrue a g own verdict
Facts a b left (entries.Reserved g own block spare) s = SameChunks a b × (is_chunk a g (block / 8) ≡ false) × IsInOrder a g × IsInOrder b g
Facts a b left (entries.Switched g own root second) s = CanBeMade a g own s.row.0 × IsInOrder a g
Facts a b left (entries.Reaped e) s = SameChunks a b × IsInOrder a e.group × IsInOrder b e.group
Facts a b left e s = Unit {0}

-- then what was known is known behind it, as the table has it
abbrev pub LettersFollow : Type 0
LettersFollow = (a b : State) (left : List Kind) (e : Entry) (h : ℕ) (letters : Letters) → HasFitting a.geometry
    → (s : Step a left e b) → Facts a b left e s → AreKnown a h letters → AreKnown b h (letters_after a left e h letters)

-- and at the end, where nothing waits, a new session finds no fault of a known unit that is trusted
abbrev pub LettersEnd : Type 0
LettersEnd = (a b : State) (g : ℕ) (letters : Letters) (unit : ScrubUnit) → g < a.geometry.agcount → HasFitting a.geometry → IsDone a
    → Forget a b → AreKnown a g letters → letters unit ≡ true → IsTrusted a g unit → faults b g unit ≡ []
