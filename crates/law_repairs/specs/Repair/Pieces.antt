-- What a reserved block and a reaped run keep: all that is known of other groups, and of their own what is known of inodes.
use Rattle.std.specs.Prelude.{◌≡◌, ◌⊎◌, ◌/◌, ◌==◌, ℕ, Bool, true, false, List}
use Rattle.fs_change.specs.Laws.{AreWords, changes_inode}
use Rattle.fs_change.specs.Step.{Step, group_of_entry}
use Rattle.fs_model.specs.declared.entry.Entry.{Entry}
use Rattle.fs_model.specs.declared.entry.Entry.TheVariants as entries
use Rattle.fs_model.specs.declared.entry.Extent.{Extent}
use Rattle.fs_model.specs.declared.unit.Unit.{Unit as ScrubUnit}
use Rattle.fs_model.specs.declared.unit.Unit.TheVariants as units
use Rattle.fs_state.specs.Apart.{is_chunk, is_inode}
use Rattle.fs_state.specs.State.{State}
use Rattle.geom.specs.Apart.{Splits}
use Rattle.sblock.specs.declared.kind.Kind.{Kind}
use Rattle.law_repairs.specs.Repair.Letters.{Stands}
use Rattle.law_repairs.specs.Repair.Moves.{SameChunks}

-- no inode that stands in a chunk changes
abbrev pub ChangesNoInode : State → Entry → Type 0
ChangesNoInode a e = (ino : ℕ) → is_inode a ino ≡ true → changes_inode a e ino ≡ false

-- an entry that leaves chunks and their inodes keeps what is known of all other groups
abbrev pub ElsewhereKeeps : Type 0
ElsewhereKeeps = (a b : State) (left : List Kind) (e : Entry) (h : ℕ) (unit : ScrubUnit) → Splits a.geometry → Step a left e b → SameChunks a b → ChangesNoInode a e
    → (h == group_of_entry a e) ≡ false → Stands a h unit → Stands b h unit

-- of another group all that is known, and of the own one what is known of inodes
abbrev pub Reaches : ℕ → ℕ → ScrubUnit → Type 0
Reaches g h unit = ((h == g) ≡ false) ⊎ (((h == g) ≡ true) × (unit ≡ units.Inode))

-- a block that is reserved, of no chunk
abbrev pub ReservedKeeps : Type 0
ReservedKeeps = (a b : State) (left : List Kind) (g : ℕ) (own : ScrubUnit) (block : ℕ) (spare : Bool) (h : ℕ) (unit : ScrubUnit) → Splits a.geometry
    → Step a left (entries.Reserved g own block spare) b → SameChunks a b → is_chunk a g (block / 8) ≡ false → AreWords (a.group g) → Reaches g h unit → Stands a h unit → Stands b h unit

-- a run that leaves limbo
abbrev pub ReapedKeeps : Type 0
ReapedKeeps = (a b : State) (left : List Kind) (e : Extent) (h : ℕ) (unit : ScrubUnit) → Splits a.geometry
    → Step a left (entries.Reaped e) b → SameChunks a b → AreWords (a.group e.group) → Reaches e.group h unit → Stands a h unit → Stands b h unit

-- A block of the list that a rebuild of free space or of reverse mappings reserves has the group as owner before and
-- behind: it keeps all that is known, in its own group too.
abbrev pub ListedKeeps : Type 0
ListedKeeps = (a b : State) (left : List Kind) (g : ℕ) (own : ScrubUnit) (block : ℕ) (h : ℕ) (unit : ScrubUnit) → Splits a.geometry → (own ≡ units.Free) ⊎ (own ≡ units.Rmap)
    → Step a left (entries.Reserved g own block false) b → SameChunks a b → is_chunk a g (block / 8) ≡ false → Stands a h unit → Stands b h unit
