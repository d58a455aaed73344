-- Reverse mappings that tell settled owners do so behind a block that a repair reserves: one entry, and what an event has of
-- it.
use Rattle.std.specs.Prelude.{◌≡◌, ◌⊎◌, ◌/◌, ◌<◌, ◌^◌, ℕ, Bool, true, false, List}
use Rattle.law_accounts.specs.Account.Ledger.{Sound}
use Rattle.law_accounts.specs.Account.Stated.{ledger_at}
use Rattle.law_accounts.specs.Account.Steps.{IsWritten}
use Rattle.fs_change.specs.Chains.{settled_forks, settled_own}
use Rattle.fs_model.specs.declared.entry.Entry.TheVariants as entries
use Rattle.fs_model.specs.declared.unit.Unit.{Unit as ScrubUnit}
use Rattle.fs_model.specs.declared.unit.Unit.TheVariants as units
use Rattle.fs_state.specs.Apart.{is_chunk}
use Rattle.fs_state.specs.State.{State}
use Rattle.geom.specs.Apart.{HasFitting}
use Rattle.law_accounts.specs.Owner.Told.{AreTold}
use Rattle.rmap_recs.specs.Runs.{has}
use Rattle.rmap_recs.specs.declared.tuples.Tuple.{Tuple}
use Rattle.run_edits.specs.EditLaws.{AreUntied}
use Rattle.sblock.specs.declared.kind.Kind.{Kind}
use Rattle.law_writers.specs.Told.Told.{IsMadeInWords}

-- the entry is made, of a block of no chunk
pub record IsReserved (a x : State) (left : List Kind) (g b : ℕ) (unit : ScrubUnit) (spare : Bool) : Type 0 where
  pub made : IsMadeInWords a x left (entries.Reserved g unit b spare)
  pub no_chunk : is_chunk a g (b / 8) ≡ false

-- What is known where its owner changes? Mappings can be edited, it has a next number, and no two owners behind the entry
-- differ in the unwritten flag alone.
pub record GetsOwner (left : List Kind) (a x : State) (g b : ℕ) : Type 0 where
  pub written : IsWritten left (a.group g)
  pub small : b < 2 ^ 32
  pub untied : AreUntied (settled_own x g)

-- a block of the list keeps its owner where the group's own trees are rebuilt
abbrev pub ListedTold : Type 0
ListedTold = (a x : State) (left : List Kind) (g b : ℕ) (unit : ScrubUnit) → (unit ≡ units.Free) ⊎ (unit ≡ units.Rmap) → HasFitting a.geometry → IsReserved a x left g b unit false → AreTold a g → AreTold x g

-- and gets the unit's for others, where it is sound, no settled fork has it, and no two owners are tied before the entry
abbrev pub TurnedTold : Type 0
TurnedTold = (a x : State) (left : List Kind) (g b : ℕ) (unit : ScrubUnit) → (unit ≡ units.Inode) ⊎ (unit ≡ units.Refc) → HasFitting a.geometry → IsReserved a x left g b unit false → GetsOwner left a x g b
    → Sound (ledger_at a g b) → ((t : Tuple) → t.block ≡ b → has (settled_forks a g) t ≡ false) → AreUntied (settled_own a g) → AreTold a g → AreTold x g

-- as a spare block does, which is nobody's where each group's mappings tell its owners
abbrev pub SpareTold : Type 0
SpareTold = (a x : State) (left : List Kind) (g b : ℕ) (unit : ScrubUnit) → (unit ≡ units.Inode) ⊎ (unit ≡ units.Refc) → HasFitting a.geometry → IsReserved a x left g b unit true → GetsOwner left a x g b
    → ((h : ℕ) → AreTold a h) → AreTold x g
