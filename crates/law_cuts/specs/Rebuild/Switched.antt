-- Reverse mappings tell settled owners behind a switch, where they hold what they should: one entry, and what an event has of
-- it.
use Rattle.std.specs.Prelude.{◌≡◌, ◌⊎◌, ℕ, true, List}
use Rattle.fs_change.specs.Chains.{Quiet}
use Rattle.fs_change.specs.Step.{Step}
use Rattle.fs_state.specs.Records.{kinds_of}
use Rattle.fs_state.specs.Laws.{EachTree}
use Rattle.fs_state.specs.Own.{own}
use Rattle.fs_model.specs.declared.entry.Entry.TheVariants as entries
use Rattle.fs_model.specs.declared.unit.Unit.{Unit as ScrubUnit}
use Rattle.fs_model.specs.declared.unit.Unit.TheVariants as units
use Rattle.fs_state.specs.State.{State, is_readable}
use Rattle.geom.specs.Apart.{Splits}
use Rattle.law_accounts.specs.Owner.Told.{AreTold}
use Rattle.law_repairs.specs.Repair.Letters.{Holds, IsTrusted, Stands}
use Rattle.law_repairs.specs.Repair.Made.{CanBeMade}
use Rattle.law_repairs.specs.Repair.Owners.{AreOwners}
use Rattle.rmap_recs.specs.Runs.{AreTuples, HaveNext}
use Rattle.sblock.specs.declared.kind.Kind.{Kind}

-- no two owners of a block differ in the unwritten flag alone, and each block has a next number
abbrev pub AreInOrder : State → ℕ → Type 0
AreInOrder b g = AreTuples (own b g) × HaveNext (own b g)

-- nothing is pending in a quiet group, so what mappings should hold is what settled owners give
abbrev pub QuietTold : Type 0
QuietTold = (b : State) (g : ℕ) → Quiet b g → Holds b g units.Rmap → AreInOrder b g → AreTold b g

-- a switch of the mappings makes them so
abbrev pub MadeTold : Type 0
MadeTold = (a b : State) (left : List Kind) (g root second : ℕ) → Splits a.geometry → (s : Step a left (entries.Switched g units.Rmap root second) b) → CanBeMade a g units.Rmap s.row.0 → AreInOrder b g → AreTold b g

-- and the others keep them so, where they are trusted and hold what they should
abbrev pub SpaceSwitchedTold : Type 0
SpaceSwitchedTold = (a b : State) (left : List Kind) (g : ℕ) (unit : ScrubUnit) (root second : ℕ) → (unit ≡ units.Free) ⊎ (unit ≡ units.Refc) → Splits a.geometry → Step a left (entries.Switched g unit root second) b
    → AreOwners a g unit → Stands a g units.Rmap → IsTrusted b g units.Rmap → AreInOrder b g → AreTold b g

abbrev pub InodesSwitchedTold : Type 0
InodesSwitchedTold = (a b : State) (left : List Kind) (g root second : ℕ) → Splits a.geometry → Step a left (entries.Switched g units.Inode root second) b
    → EachTree (λ k. is_readable ((a.group g).tree k).reading ≡ true) (kinds_of units.Inode) → Stands a g units.Rmap → IsTrusted b g units.Rmap → AreInOrder b g → AreTold b g
