-- What a step of the check tells, or why it ends the check.
use Rattle.std.specs.Prelude.{◌≡◌, ◌<◌, ◌≤◌, ⊤, ℕ, ◌+◌, Bool, true, false, List, ◌++◌, length, Option, Some, None, Result, Ok, Err}
use Rattle.ag_headers.specs.declared.fault.HeadFault.{HeadFault}
use Rattle.fs_model.specs.declared.entry.Entry.{Entry}
use Rattle.fs_model.specs.declared.unit.Head.{Head}
use Rattle.space_check.specs.Events.{most_entries}
use Rattle.space_check.specs.declared.halt.Halt.{Halt}
use Rattle.space_check.specs.declared.halt.Halt.TheVariants as halts

-- the device failed
abbrev pub is_failed : Halt → Bool
is_failed (halts.Head g head fault) = false
is_failed halts.Full = false
is_failed halts.Failed = true
is_failed halts.Memory = false

-- the device failed, or there was no memory
abbrev pub IsOutside : Halt → Type 0
IsOutside (halts.Head g head fault) = ⊥
IsOutside halts.Full = ⊥
IsOutside halts.Failed = ⊤
IsOutside halts.Memory = ⊤

-- no device was asked
abbrev pub IsOwn : Halt → Type 0
IsOwn halt = is_failed halt ≡ false

-- n blocks were counted as read, or no more than n where that was cut off
abbrev pub HasRead : {T : Type 0} → (before n after : ℕ) → Result T Halt → Type 0
HasRead before n after (Ok done) = after ≡ before + n
HasRead before n after (Err halt) = after ≤ before + n

-- these entries were added, all of them; or none, since there was no memory
abbrev pub Adds : {T : Type 0} → (before more after : List Entry) → Result T Halt → Type 0
Adds before more after (Ok done) = after ≡ before ++ more
Adds before more after (Err halt) = (halt ≡ halts.Memory) × (after ≡ before)

-- no head of group g is refused, or this is the first one
abbrev pub MeetsHead : {T : Type 0} → ℕ → Option (Head × HeadFault) → Result T Halt → Type 0
MeetsHead g first (Ok done) = first ≡ None
MeetsHead g first (Err (halts.Head h head fault)) = (h ≡ g) × (first ≡ Some (head, fault))
MeetsHead g first (Err halts.Full) = ⊥
MeetsHead g first (Err halts.Failed) = ⊤
MeetsHead g first (Err halts.Memory) = ⊤

-- an event may begin, or the journal is full
abbrev pub Begins : {T : Type 0} → (journal : List Entry) → Result T Halt → Type 0
Begins journal (Ok done) = length journal < most_entries
Begins journal (Err halt) = (halt ≡ halts.Full) × (most_entries ≤ length journal)

-- no journal was full
abbrev pub IsNotFull : Halt → Type 0
IsNotFull (halts.Head g head fault) = ⊤
IsNotFull halts.Full = ⊥
IsNotFull halts.Failed = ⊤
IsNotFull halts.Memory = ⊤
