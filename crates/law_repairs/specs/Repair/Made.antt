-- A switch by itself: which chunks it leaves, and what it makes of its own unit and of those beside it.
use Rattle.std.specs.Prelude.{◌≡◌, ◌⊎◌, ◌==◌, ℕ, true, false, List}
use Rattle.fs_change.specs.Laws.{OnlyChunks}
use Rattle.fs_change.specs.Step.{Step}
use Rattle.fs_change.specs.Switch.{moved, switched}
use Rattle.fs_state.specs.Records.{kinds_of}
use Rattle.fs_state.specs.Laws.{EachTree}
use Rattle.fs_state.specs.Own.{own}
use Rattle.fs_model.specs.declared.entry.Entry.TheVariants as entries
use Rattle.fs_model.specs.declared.unit.Unit.{Unit as ScrubUnit}
use Rattle.fs_model.specs.declared.unit.Unit.TheVariants as units
use Rattle.fs_state.specs.State.{State, is_readable}
use Rattle.geom.specs.Apart.{Splits}
use Rattle.rmap_recs.specs.Runs.{AreTuples, HaveNext}
use Rattle.sblock.specs.declared.kind.Kind.{Kind}
use Rattle.law_repairs.specs.Repair.Letters.{Holds, Stands}
use Rattle.law_repairs.specs.Repair.Moves.{SameChunks, is_beside}

-- What is asked of the owners from which a unit is made? Nothing but of reverse mappings: no two owners of a block differ in
-- the unwritten flag alone, each block has a next number, and who has a block as inodes has it in a chunk.
abbrev pub CanBeMade : State → ℕ → ScrubUnit → (Kind → List ℕ) → Type 0
CanBeMade a g units.Rmap blocks = AreTuples (own (moved a g units.Rmap blocks) g) × HaveNext (own (moved a g units.Rmap blocks) g) × OnlyChunks (moved a g units.Rmap blocks) g
CanBeMade a g unit blocks = Unit {0}

-- then no chunk comes or goes by the switch
abbrev pub ChunksStay : Type 0
ChunksStay = (a : State) (g : ℕ) (unit : ScrubUnit) (blocks : Kind → List ℕ) → CanBeMade a g unit blocks → SameChunks a (switched a g unit blocks)

-- its unit is good, counters too; of reverse mappings also claims are clear
abbrev pub UnitIsMade : Type 0
UnitIsMade = (a b : State) (left : List Kind) (g : ℕ) (unit : ScrubUnit) (root second : ℕ) → Splits a.geometry
    → (s : Step a left (entries.Switched g unit root second) b) → CanBeMade a g unit s.row.0 → Holds b g unit

-- and what is known of the units beside it, and of all other groups, stays
abbrev pub BesideStays : Type 0
BesideStays = (a b : State) (left : List Kind) (g : ℕ) (made : ScrubUnit) (root second h : ℕ) (unit : ScrubUnit) → Splits a.geometry
    → (s : Step a left (entries.Switched g made root second) b) → CanBeMade a g made s.row.0 → ((h == g) ≡ false) ⊎ (is_beside made unit ≡ true) → Stands a h unit → Stands b h unit

-- the switch of the inode btrees keeps what is known of the reverse mappings where both old ones could be read: their
-- blocks wait in limbo with the owner that they had
abbrev pub InodesKeepMappings : Type 0
InodesKeepMappings = (a b : State) (left : List Kind) (g root second : ℕ) → Splits a.geometry → Step a left (entries.Switched g units.Inode root second) b
    → EachTree (λ k. is_readable ((a.group g).tree k).reading ≡ true) (kinds_of units.Inode) → Stands a g units.Rmap → Stands b g units.Rmap
