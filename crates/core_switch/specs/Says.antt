-- Which entries the events of a rebuild's end add to the journal ("Reaping After Repairing Ondisk Metadata").
use Rattle.std.specs.Prelude.{◌≡◌, ◌⊎◌, ◌∷◌, [], ℕ, Bool, true, false, List, Some, None, Result, Ok, Err}
use Rattle.block_reap.specs.Limbo.{next_of}
use Rattle.block_reap.specs.declared.runs.LimboRun.{LimboRun}
use Rattle.core_calls.specs.declared.answers.ScrubFault.{ScrubFault}
use Rattle.core_parts.specs.Common.Entries.{HasMore}
use Rattle.core_parts.specs.Common.Kinds.{is_good, with_trust}
use Rattle.core_parts.specs.Common.Marks.{marks_of, sick_by}
use Rattle.core_parts.specs.declared.desk.Desk.{Desk}
use Rattle.core_parts.specs.declared.groups.GroupKept.{GroupKept}
use Rattle.core_parts.specs.declared.units.UnitState.{UnitState}
use Rattle.core_switch.specs.Reserves.{reserve_in}
use Rattle.fs_model.specs.declared.entry.Entry.{Entry}
use Rattle.fs_model.specs.declared.entry.Entry.TheVariants as entries
use Rattle.fs_model.specs.declared.entry.Extent.{Extent}
use Rattle.fs_model.specs.declared.fault.Cause.{Cause}
use Rattle.fs_model.specs.declared.unit.Trust.TheVariants.{Sick}
use Rattle.fs_model.specs.declared.unit.Unit.{Unit as ScrubUnit}
use Rattle.sblock.specs.declared.kind.Kind.TheVariants.{Rmap}
use Rattle.core_edit.specs.declared.place.IndexesLeft.{IndexesLeft}

-- these entries came, or it was refused and none came
abbrev pub SaysBy : {D T : Type 0} → List Entry → (old new : Desk D) → Result T ScrubFault → Type 0
SaysBy es old new (Ok answer) = HasMore old new es
SaysBy es old new (Err fault) = new.book.journal.items ≡ old.book.journal.items

-- ---- a run that is reaped

abbrev pub run_in : ℕ → LimboRun → Extent
run_in g run = record { group = g; block = run.start; count = run.count }

-- the run, and then a mark for each index that was left
abbrev pub reaped_of : ℕ → LimboRun → IndexesLeft → List Entry
reaped_of g run left = entries.Reaped (run_in g run) ∷ marks_of g left

-- The run was reaped: it left, and then each index that was left has its mark and is sick.
pub record ReapsRun {D : Type 0} (g : ℕ) (run : LimboRun) (p q : GroupKept) (old new : Desk D) : Type 0 where
  pub left : IndexesLeft
  pub entries : HasMore old new (reaped_of g run left)
  pub trust : q.trust ≡ sick_by left p.trust

-- where it is refused no entry comes
abbrev pub SaysReaped : {D : Type 0} → ℕ → LimboRun → (p q : GroupKept) → (old new : Desk D) → Result Bool ScrubFault → Type 0
SaysReaped g run p q old new (Ok answer) = ReapsRun g run p q old new
SaysReaped g run p q old new (Err fault) = new.book.journal.items ≡ old.book.journal.items

-- Reverse mappings met a fault: they are marked and sick, limbo is as it was, and nothing is left to be reaped.
pub record MarksRmap {D : Type 0} (g : ℕ) (answer : Bool) (p q : GroupKept) (old new : Desk D) : Type 0 where
  pub cause : Cause
  pub entries : HasMore old new (entries.Marked g Rmap cause ∷ [])
  pub trust : q.trust ≡ with_trust p.trust Rmap Sick
  pub limbo : q.limbo ≡ p.limbo
  pub told : answer ≡ true

-- nothing can be reaped: reverse mappings aren't good, or limbo is empty
abbrev pub IsIdle : GroupKept → Type 0
IsIdle p = (is_good p.trust.rmap ≡ false) ⊎ (next_of p.limbo.items ≡ None)

-- this run is the next
pub record IsNextRun (p : GroupKept) (run : LimboRun) : Type 0 where
  pub good : is_good p.trust.rmap ≡ true
  pub next : next_of p.limbo.items ≡ Some run

-- nothing was reaped, and no entry came
pub record ReapsNone {D : Type 0} (answer : Bool) (p q : GroupKept) (old new : Desk D) : Type 0 where
  pub idle : IsIdle p
  pub told : answer ≡ true
  pub entries : HasMore old new []
  pub kept : q ≡ p

-- What a piece adds that reaps this run: where it is refused, nothing.
abbrev pub SaysRun : {D : Type 0} → ℕ → LimboRun → (p q : GroupKept) → (old new : Desk D) → Result Bool ScrubFault → Type 0
SaysRun g run p q old new (Ok answer) = ReapsRun g run p q old new ⊎ MarksRmap g answer p q old new
SaysRun g run p q old new (Err fault) = new.book.journal.items ≡ old.book.journal.items

-- What a piece adds, by the group as it was kept before: nothing where nothing can be reaped, else what the next run
-- gives.
abbrev pub SaysReaping : {D : Type 0} → ℕ → (p q : GroupKept) → (old new : Desk D) → Result Bool ScrubFault → Type 0
SaysReaping g p q old new (Ok answer) = ReapsNone answer p q old new ⊎ ((run : LimboRun) × (IsNextRun p run × SaysRun g run p q old new (Ok answer)))
SaysReaping g p q old new (Err fault) = new.book.journal.items ≡ old.book.journal.items

-- ---- a reserve that is released

-- one that isn't empty
abbrev pub released_of : ℕ → ScrubUnit → List ℕ → List Entry
released_of g unit [] = []
released_of g unit (b ∷ bs) = entries.Released g unit ∷ []

abbrev pub released_by : UnitState → List Entry
released_by u = released_of u.group u.unit (reserve_in u.work)
