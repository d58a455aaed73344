-- A released reserve, and new trees that take the place of the old ones: what they keep of the other units, and what a
-- switch makes of its own.
use Rattle.std.specs.Prelude.{◌≡◌, ◌⊎◌, ◌==◌, ℕ, Bool, true, false, List}
use Rattle.fs_change.specs.Step.{Step}
use Rattle.fs_change.specs.Switch.{switched}
use Rattle.fs_state.specs.Laws.{IsGood}
use Rattle.fs_change.specs.Laws.{DerivedAgain}
use Rattle.fs_model.specs.declared.entry.Entry.TheVariants as entries
use Rattle.fs_model.specs.declared.unit.Unit.{Unit as ScrubUnit}
use Rattle.fs_model.specs.declared.unit.Unit.TheVariants as units
use Rattle.fs_state.specs.Apart.{is_chunk}
use Rattle.fs_state.specs.State.{State}
use Rattle.geom.specs.Apart.{Splits}
use Rattle.law_repairs.specs.Repair.Kept.{KeepsKnown}
use Rattle.law_repairs.specs.Repair.Letters.{Stands}
use Rattle.sblock.specs.declared.kind.Kind.{Kind}

-- a released reserve keeps what is known of each unit
abbrev pub ReleasedKeeps : Type 0
ReleasedKeeps = (g : ℕ) (own : ScrubUnit) → KeepsKnown (entries.Released g own)

-- the switch of a unit leaves what these are read off as it was: inodes aren't read off their trees' blocks, nor free
-- space and reference counts off anything but the reverse mappings
abbrev pub is_beside : ScrubUnit → ScrubUnit → Bool
is_beside units.Inode units.Free = true
is_beside units.Inode units.Refc = true
is_beside units.Rmap units.Inode = true
is_beside units.Free units.Inode = true
is_beside units.Free units.Refc = true
is_beside units.Refc units.Inode = true
is_beside units.Refc units.Free = true
is_beside own unit = false

-- no chunk comes or goes
abbrev pub SameChunks : State → State → Type 0
SameChunks a x = (h u : ℕ) → is_chunk x h u ≡ is_chunk a h u

-- a switch that leaves the chunks as they were keeps what is known of the units beside it, and of all other groups
abbrev pub SwitchedKeeps : Type 0
SwitchedKeeps = (a b : State) (left : List Kind) (g : ℕ) (own : ScrubUnit) (root second h : ℕ) (unit : ScrubUnit) → Splits a.geometry
    → (s : Step a left (entries.Switched g own root second) b) → SameChunks a s.decided → ((h == g) ≡ false) ⊎ (is_beside own unit ≡ true) → Stands a h unit → Stands b h unit

-- the switches of free space and of reference counts leave them so
abbrev pub SpaceKeepsChunks : Type 0
SpaceKeepsChunks = (a : State) (g : ℕ) (blocks : Kind → List ℕ) → SameChunks a (switched a g units.Free blocks) × SameChunks a (switched a g units.Refc blocks)

-- a unit whose trees, in the blocks that the entry laid, hold what is derived again is good after its switch, counters too
abbrev pub SwitchedIsGood : Type 0
SwitchedIsGood = (a b : State) (left : List Kind) (g : ℕ) (own : ScrubUnit) (root second : ℕ) → Splits a.geometry
    → (s : Step a left (entries.Switched g own root second) b) → DerivedAgain a g own s.row.0 → IsGood b g own
