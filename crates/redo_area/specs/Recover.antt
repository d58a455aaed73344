-- What a recovery answers and keeps.
use Rattle.std.specs.Prelude.{◌≡◌, ◌⊎◌, ◌≤◌, ℕ, Bool, true, nat_lt, if◌then◌else◌, List, Option, Some, None, Result, Ok, Err, IsErrOf, ⊤}
use Rattle.blk_device.specs.Causes.{Rose}
use Rattle.blk_device.specs.declared.device.Region.TheVariants.{Image, Redo}
use Rattle.blk_device.specs.Contents.{Contents, Becomes}
use Rattle.blk_device.specs.Crash.{LeavesOnly, NoMore}
use Rattle.blk_device.specs.declared.device.Device.{Ghosts}
use Rattle.redo_area.specs.declared.TheConstants.{REDO_BLOCKS}
use Rattle.redo_area.specs.declared.faults.RedoFault.{RedoFault}
use Rattle.redo_area.specs.declared.faults.RedoFault.TheVariants.{Short, Count, Size, Place, Failed}
use Rattle.redo_area.specs.Area.{after_crash, is_open}
use Rattle.redo_area.specs.Stages.{IsQuiet, StandsFor}
use Rattle.redo_area.specs.Table.{table_fault}

-- the first fault, by the sizes of redo region and image
abbrev pub redo_fault : ℕ → ℕ → Contents → Option RedoFault
redo_fault redo image m = if nat_lt redo REDO_BLOCKS then Some Short else (if is_open m then table_fault image (m Redo 1) else None)

-- the redo region is refused, by the sizes that a device tells
abbrev pub IsRefused : {D : Type 0} → Ghosts D → D → Contents → Type 0
IsRefused g d m = redo_fault (g.blocks d Redo) (g.blocks d Image) m ≡ None → ⊥

-- the answer, where the device didn't fail, tells the first fault, and without one whether a batch waits
abbrev pub Answers : Option RedoFault → Bool → Result Bool RedoFault → Type 0
Answers fault waits (Ok b) = (fault ≡ None) × (b ≡ waits)
Answers fault waits (Err Failed) = ⊤
Answers fault waits (Err Short) = fault ≡ Some Short
Answers fault waits (Err Count) = fault ≡ Some Count
Answers fault waits (Err Size) = fault ≡ Some Size
Answers fault waits (Err Place) = fault ≡ Some Place

-- Read and synced at most: the device holds what it held, and a crash at any moment leaves what it might have left before.
pub record OnlySettles {D : Type 0} (g : Ghosts D) (old new : D) : Type 0 where
  pub same : g.content new ≡ g.content old
  pub crash : NoMore (g.may_hold_now old) (g.may_hold_now new)
  pub moments : LeavesOnly g.clock g.may_have_held_since old new (g.may_hold_now old)

-- where content was told it is told, and else it isn't
abbrev pub StaysTold : Option Contents → Option Contents → Type 0
StaysTold old new = Becomes old new (λ m n. ⊤)

-- what a crash might have left before, or contents that recovery turns into the image that it makes of m
abbrev pub IsOldOrSame : ℕ → (Contents → Type 0) → Contents → Contents → Type 0
IsOldOrSame size may_hold m c = may_hold c ⊎ StandsFor size (after_crash m) c

-- Failed is told only where the count of faults rose, and no other answer moves it.
pub record TellsFailed {T : Type 0} (before now : ℕ) (result : Result T RedoFault) : Type 0 where
  pub later : before ≤ now
  pub failed : IsErrOf result Failed → Rose before now
  pub calm : (IsErrOf result Failed → ⊥) → now ≡ before

-- a fault of a table
abbrev pub IsOfTable : RedoFault → Type 0
IsOfTable Short = ⊥
IsOfTable Count = ⊤
IsOfTable Size = ⊤
IsOfTable Place = ⊤
IsOfTable Failed = ⊥

-- a batch waits behind an open gate, by this table
pub record IsFound (bytes : List ℕ) (may_hold : Contents → Type 0) (m : Contents) : Type 0 where
  pub quiet : IsQuiet may_hold m
  pub opened : is_open m ≡ true
  pub table : m Redo 1 ≡ bytes

-- whether the gate is open, and behind an open one the table
pub record IsSeen (waits : Bool) (bytes : List ℕ) (m : Contents) : Type 0 where
  pub gate : waits ≡ is_open m
  pub table : waits ≡ true → m Redo 1 ≡ bytes
