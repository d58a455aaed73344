-- The limbo of a switch, as runs and as the blocks that the switch puts there.
use Rattle.std.specs.Prelude.{◌≡◌, ◌==◌, ℕ, Bool, true, false, List, []}
use Rattle.std.specs.List.{list_any}
use Rattle.fs_change.specs.Switch.{lost_blocks, unit_owner, without_trees}
use Rattle.fs_state.specs.Claims.{claims}
use Rattle.fs_state.specs.Derive.{mappings}
use Rattle.fs_model.specs.declared.unit.Unit.{Unit as ScrubUnit}
use Rattle.fs_model.specs.declared.unit.Unit.TheVariants as units
use Rattle.fs_state.specs.Apart.{listed_free}
use Rattle.fs_state.specs.State.{State, blocks_of, is_readable}
use Rattle.geom.specs.Layout.{group_len_of}
use Rattle.run_sets.specs.Runs.{holds, AreRunsBelow}
use Rattle.run_sets.specs.declared.run.Run.{Run}
use Rattle.sblock.specs.declared.kind.Kind.TheVariants.{Bno, Fino, Ino}
use Rattle.unit_plan.specs.Laws.{is_in}
use Rattle.unit_plan.specs.Lost.{is_of_old, is_taken, is_unclaimed, is_unlisted}
use Rattle.unit_plan.specs.Sets.{LieBelow}
use Rattle.unit_plan.specs.declared.piece.Piece.{Piece}

-- the pieces that still claim have the blocks that are claimed once the unit's old trees are none
abbrev pub StillClaim : State → ℕ → ScrubUnit → List Piece → Type 0
StillClaim a g unit ps = (b : ℕ) → is_taken unit ps b ≡ is_in (claims (without_trees a g unit) g) b

-- in the runs lie exactly the lost blocks
abbrev pub HoldLost : State → ℕ → ScrubUnit → List Run → Type 0
HoldLost a g unit runs = (b : ℕ) → holds runs b ≡ list_any (λ x. x == b) (lost_blocks a g unit)

-- of reverse mappings, where the btree of free space by start can be read; else nothing is lost
abbrev pub LostUnlisted : Type 0
LostUnlisted = (a : State) (g : ℕ) (ps : List Piece) (runs : List Run) → is_readable ((a.group g).tree Bno).reading ≡ true → StillClaim a g units.Rmap ps
    → AreRunsBelow (is_unlisted (listed_free a g) ps) (group_len_of a.geometry g) runs → HoldLost a g units.Rmap runs

abbrev pub LostNothing : Type 0
LostNothing = (a : State) (g : ℕ) → is_readable ((a.group g).tree Bno).reading ≡ false → lost_blocks a g units.Rmap ≡ []

-- of free space and of reference counts
abbrev pub LostUnclaimed : ScrubUnit → Type 0
LostUnclaimed unit = (a : State) (g : ℕ) (ps : List Piece) (runs : List Run) → StillClaim a g unit ps → AreRunsBelow (is_unclaimed unit (unit_owner unit) (mappings a g) ps) (group_len_of a.geometry g) runs → HoldLost a g unit runs

-- of inodes: the pieces of a btree have its blocks, and what could be read is said
pub record TellOld (a : State) (g : ℕ) (ino fino : Bool) (ps : List Piece) : Type 0 where
  pub first : ino ≡ is_readable ((a.group g).tree Ino).reading
  pub second : fino ≡ is_readable ((a.group g).tree Fino).reading
  pub blocks : (b : ℕ) → is_of_old true false ps b ≡ list_any (λ x. x == b) (blocks_of ((a.group g).tree Ino).reading)
  pub others : (b : ℕ) → is_of_old false true ps b ≡ list_any (λ x. x == b) (blocks_of ((a.group g).tree Fino).reading)

abbrev pub LostOld : Type 0
LostOld = (a : State) (g : ℕ) (ino fino : Bool) (ps : List Piece) (runs : List Run) → TellOld a g ino fino ps → LieBelow (group_len_of a.geometry g) ps → AreRunsBelow (is_of_old ino fino ps) (group_len_of a.geometry g) runs → HoldLost a g units.Inode runs
