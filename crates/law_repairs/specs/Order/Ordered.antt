-- A group of the state that an image stands for is in order at every moment: each part of that from what it needs.
use Rattle.std.specs.Prelude.{◌≡◌, ℕ, ◌<◌, true, false, List}
use Rattle.fs_change.specs.Laws.{AreWords, OnlyChunks}
use Rattle.fs_change.specs.Parts.{sick_in}
use Rattle.fs_change.specs.Step.{Step}
use Rattle.fs_state.specs.Own.{own}
use Rattle.fs_model.specs.declared.entry.Entry.TheVariants as entries
use Rattle.fs_model.specs.declared.unit.Unit.{Unit as ScrubUnit}
use Rattle.fs_state.specs.Apart.{Apart}
use Rattle.fs_state.specs.Frame.{Firm}
use Rattle.fs_state.specs.Kinds.{Image}
use Rattle.fs_state.specs.Read.{KeepsBad, opened, state_of}
use Rattle.fs_state.specs.State.{Kept, State, is_readable, pairs_of}
use Rattle.geom.specs.Apart.{HasFitting}
use Rattle.geom.specs.Layout.{Layout}
use Rattle.law_repairs.specs.Move.Order.{AreBlocks, IsInOrder}
use Rattle.law_repairs.specs.Repair.Made.{CanBeMade}
use Rattle.law_repairs.specs.Repair.Owners.{AreOwners, LieInside}
use Rattle.rmap_recs.specs.Runs.{AreTuples, HaveNext}
use Rattle.sblock.specs.declared.kind.Kind.{Kind}
use Rattle.law_repairs.specs.Order.Kept.{AreNoChunks, AreNoInodes, HeadsAreBytes, KeptInOrder, ListIsAccepted, LogLiesInside}

-- counters are words where the heads are bytes
abbrev pub CountersAreWords : Type 0
CountersAreWords = (at : Layout) (image : Image) (kept : Kept) (g : ℕ) → HeadsAreBytes at image g
    → AreWords ((state_of at image kept).group g)

-- a tree that can't be read is kept as bad, and so is sick
abbrev pub BadIsSick : Type 0
BadIsSick = (at : Layout) (image : Image) (kept : Kept) (g : ℕ) → g < at.agcount → KeepsBad at image kept
    → KeptInOrder at kept g
    → (k : Kind) → is_readable (((state_of at image kept).group g).tree k).reading ≡ false
    → sick_in ((state_of at image kept).group g) k ≡ true

-- owners in limbo are no inodes
abbrev pub LimboIsPlain : Type 0
LimboIsPlain = (at : Layout) (image : Image) (kept : Kept) (g : ℕ) → KeptInOrder at kept g
    → AreNoInodes ((state_of at image kept).group g).limbo

-- the blocks of list, trees and limbo are each there once, since no block of metadata has a second claim
abbrev pub BlocksAreOnce : Type 0
BlocksAreOnce = (at : Layout) (image : Image) (kept : Kept) (g : ℕ) → HasFitting at → g < at.agcount
    → Firm at image kept → KeptInOrder at kept g → ListIsAccepted at image g
    → AreBlocks ((state_of at image kept).group g)

-- each claimed block lies in the group: of forks those that can be read claim blocks, and they end in it
abbrev pub ClaimsLieInside : Type 0
ClaimsLieInside = (at : Layout) (image : Image) (kept : Kept) (g : ℕ) → HasFitting at → LogLiesInside at
    → g < at.agcount → KeepsBad at image kept → KeptInOrder at kept g → ListIsAccepted at image g
    → LieInside (state_of at image kept) g

-- so each has a next number
abbrev pub OwnersHaveNext : Type 0
OwnersHaveNext = (at : Layout) (image : Image) (kept : Kept) (g : ℕ) → HasFitting at → LogLiesInside at → g < at.agcount
    → KeepsBad at image kept → KeptInOrder at kept g → ListIsAccepted at image g
    → HaveNext (own (state_of at image kept) g)

-- No two owners of a block differ in the unwritten flag alone: one inode's fork that can be read maps each offset once, whether
-- claims overlap or not.
abbrev pub OwnersAreTuples : Type 0
OwnersAreTuples = (at : Layout) (image : Image) (kept : Kept) (g : ℕ) → HasFitting at → KeptInOrder at kept g
    → AreTuples (own (state_of at image kept) g)

-- all of it
abbrev pub GroupIsInOrder : Type 0
GroupIsInOrder = (at : Layout) (image : Image) (kept : Kept) (g : ℕ) → HasFitting at → LogLiesInside at → g < at.agcount
    → Firm at image kept → KeptInOrder at kept g → HeadsAreBytes at image g → ListIsAccepted at image g
    → IsInOrder (state_of at image kept) g

-- ---- at opening

-- what is kept in memory is in order by itself
abbrev pub OpenedIsKept : Type 0
OpenedIsKept = (at : Layout) (image : Image) (g : ℕ) → KeptInOrder at (opened at image) g

-- so the group is, where no block of metadata has a second claim
abbrev pub OpenedIsInOrder : Type 0
OpenedIsInOrder = (at : Layout) (image : Image) (g : ℕ) → HasFitting at → LogLiesInside at → g < at.agcount
    → Apart (state_of at image (opened at image)) → HeadsAreBytes at image g → ListIsAccepted at image g
    → IsInOrder (state_of at image (opened at image)) g

-- ---- what a switch asks of owners

-- in a group that is in order owners are, and what should be in the reverse mappings are their maximal runs
abbrev pub OrderHasOwners : Type 0
OrderHasOwners = (a : State) (g : ℕ) (unit : ScrubUnit) → HasFitting a.geometry → IsInOrder a g → AreOwners a g unit

-- of an image also where blocks of metadata have second claims
abbrev pub OwnersAreInOrder : Type 0
OwnersAreInOrder = (at : Layout) (image : Image) (kept : Kept) (g : ℕ) (unit : ScrubUnit) → HasFitting at
    → LogLiesInside at → g < at.agcount → KeepsBad at image kept → KeptInOrder at kept g → ListIsAccepted at image g
    → AreOwners (state_of at image kept) g unit

-- who has a block as inodes has it in a chunk, where no owner in reserve and limbo is that of chunks
abbrev pub ChunksAreInodes : Type 0
ChunksAreInodes = (at : Layout) (image : Image) (kept : Kept) (g : ℕ) → HasFitting at → AreNoChunks (kept.reserve g)
    → AreNoChunks (pairs_of (kept.limbo g)) → OnlyChunks (state_of at image kept) g

-- So new reverse mappings can be made of what a switch leaves to claim blocks. That state is no image's, but it has the forks
-- of one, its new tree lies in the reserve, and limbo gains blocks of the group with the owner of trees.
abbrev pub SwitchCanBeMade : Type 0
SwitchCanBeMade = (at : Layout) (image : Image) (kept : Kept) (b : State) (left : List Kind) (g : ℕ) (unit : ScrubUnit) (root second : ℕ)
    → HasFitting at → LogLiesInside at → g < at.agcount → KeepsBad at image kept → KeptInOrder at kept g
    → ListIsAccepted at image g
    → AreNoChunks (pairs_of (kept.limbo g))
    → (s : Step (state_of at image kept) left (entries.Switched g unit root second) b)
    → CanBeMade (state_of at image kept) g unit s.row.0
