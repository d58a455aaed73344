-- What the faults of a piece make of the desk.
use Rattle.std.specs.Prelude.{◌≡◌, ℕ, ◌+◌, ◌++◌, List, length, map}
use Rattle.std.specs.Vec.{vec_capacity, vec_len}
use Rattle.core_parts.specs.Common.Entries.{HasMore}
use Rattle.core_parts.specs.declared.desk.Desk.{Desk}
use Rattle.core_parts.specs.declared.groups.GroupKept.{GroupKept}
use Rattle.fs_model.specs.declared.entry.Entry.{Entry}
use Rattle.fs_model.specs.declared.entry.Entry.TheVariants as entries
use Rattle.fs_model.specs.declared.fault.Fault.{Fault}
use Rattle.fs_model.specs.declared.unit.Unit.{Unit as ScrubUnit}
use Rattle.unit_trust.specs.Trusts.{KnownBy}

-- the entry of a fault
abbrev pub entry_of : ℕ → ScrubUnit → Fault → Entry
entry_of g unit fault = entries.Fault g unit fault

-- an entry came for each of these faults, in room that was there, and all else of the desk is as it was
pub record Tells {D : Type 0} (g : ℕ) (unit : ScrubUnit) (faults : List Fault) (old new : Desk D) : Type 0 where
  pub store : new.store ≡ old.store
  pub items : new.book.journal.items ≡ old.book.journal.items ++ map (entry_of g unit) faults
  pub begun : new.book.begun ≡ old.book.begun
  pub shut : new.book.shut ≡ old.book.shut
  pub drain : new.drain ≡ old.drain
  pub trees : new.ino_trees ≡ old.ino_trees
  pub capacity : vec_capacity new.book.journal ≡ vec_capacity old.book.journal
  pub longer : vec_len new.book.journal ≡ vec_len old.book.journal + length faults

-- what is known of the group is what the entries that came make of it
abbrev pub IsKnown : {D : Type 0} → Desk D → Desk D → GroupKept → GroupKept → Type 0
IsKnown old new was now = (es : List Entry) → HasMore old new es → KnownBy es was now
