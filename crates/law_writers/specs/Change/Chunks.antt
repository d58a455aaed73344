-- Which chunks there are behind an entry ("Inode B+trees").
use Rattle.std.specs.Prelude.{◌≡◌, ℕ, ◌*◌, ◌/◌, ◌==◌, ◌&&◌, ◌||◌, true, false, List, [], ◌∷◌, Some}
use Rattle.fs_model.specs.declared.entry.Entry.{Entry}
use Rattle.fs_model.specs.declared.entry.Entry.TheVariants as entries
use Rattle.fs_model.specs.declared.unit.Unit.TheVariants as units
use Rattle.geom.specs.Apart.{HasFitting}
use Rattle.rmap_recs.specs.Owners.{number_of}
use Rattle.rmap_recs.specs.Runs.{AreTuples, HaveNext}
use Rattle.rmap_recs.specs.declared.owner.Owner.TheVariants.{Inodes}
use Rattle.sblock.specs.declared.kind.Kind.{Kind}
use Rattle.sblock.specs.declared.kind.Kind.TheVariants.{Ino}
use Rattle.fs_state.specs.Apart.{is_chunk}
use Rattle.fs_state.specs.State.{State, blocks_in, is_readable}
use Rattle.fs_state.specs.declared.intent.Intent.{Intent}
use Rattle.fs_state.specs.Records.{kinds_of}
use Rattle.fs_state.specs.Own.{own}
use Rattle.fs_change.specs.Changes.{owner_of_run}
use Rattle.fs_change.specs.Laws.{OnlyChunks}
use Rattle.fs_change.specs.Step.{Step, group_of_inode}
use Rattle.fs_change.specs.Switch.{AreLaid, kind_need, moved}

-- this isn't the owner that chunks have
abbrev pub IsOther : ℕ → Type 0
IsOther owner = (owner == number_of Inodes) ≡ false

abbrev pub IsOthers : List Intent → Type 0
IsOthers [] = Unit {0}
IsOthers (i ∷ rest) = IsOther i.ino

-- a rebuild of reverse mappings reads chunks off the old ones, and gives inodes the blocks of chunks alone
abbrev pub IsRebuiltAlike : State → ℕ → Type 0
IsRebuiltAlike m g = AreTuples (own m g) × HaveNext (own m g) × OnlyChunks m g

-- Which entries leave all chunks? All but those that make one, that reserve a block of one, or that give or take blocks
-- with the owner of inodes. A rebuild of reverse mappings is asked for the blocks that its row may lay, which are the
-- reserve's.
abbrev pub LeavesChunks : State → Entry → Type 0
LeavesChunks a (entries.RmapDone c ino g b n) = IsOthers (a.chains c)
LeavesChunks a (entries.Taken writer ino uid (Some b)) = ⊥
LeavesChunks a (entries.Reserved g unit b spare) = is_chunk a g (b / 8) ≡ false
LeavesChunks a (entries.Switched g units.Rmap root second) =
    (blocks : Kind → List ℕ) → AreLaid (kind_need a g units.Rmap) (kinds_of units.Rmap) (blocks_in (a.group g).reserve) blocks → IsRebuiltAlike (moved a g units.Rmap blocks) g
LeavesChunks a (entries.Reaped e) = IsOther (owner_of_run (a.group e.group) e)
LeavesChunks a e = Unit {0}

abbrev pub StepKeepsChunks : Type 0
StepKeepsChunks = (a b : State) (left : List Kind) (e : Entry) → HasFitting a.geometry → Step a left e b → LeavesChunks a e → (h u : ℕ) → is_chunk b h u ≡ is_chunk a h u

-- A new chunk is one more, that of its eight blocks, and no other, where the inode btree can be read.
abbrev pub ChunkIsMade : Type 0
ChunkIsMade = (a b : State) (left : List Kind) (writer ino uid block : ℕ) → HasFitting a.geometry → Step a left (entries.Taken writer ino uid (Some block)) b
    → is_readable ((a.group (group_of_inode a ino)).tree Ino).reading ≡ true → (h u : ℕ) → is_chunk b h u ≡ (is_chunk a h u || ((h == group_of_inode a ino) && (8 * u == block)))
