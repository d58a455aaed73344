-- Both inode btrees hold what they should behind an entry of a writer: one entry and its step.
use Rattle.std.specs.Prelude.{ℕ, ◌≡◌, true, List, Some, None}
use Rattle.law_writers.specs.Change.Chunks.{LeavesChunks}
use Rattle.fs_change.specs.Parts.{records_in}
use Rattle.fs_change.specs.Step.{Step, group_of_inode}
use Rattle.fs_state.specs.Derive.{fino_of, ino_of}
use Rattle.fs_model.specs.declared.entry.Entry.{Entry}
use Rattle.fs_model.specs.declared.entry.Entry.TheVariants as entries
use Rattle.fs_state.specs.State.{State, is_readable}
use Rattle.geom.specs.Apart.{HasFitting}
use Rattle.sblock.specs.declared.kind.Kind.{Kind}
use Rattle.sblock.specs.declared.kind.Kind.TheVariants.{Ino, Fino}

-- they hold a record for each chunk, and for each with a free inode
pub record AreListed (a : State) (g : ℕ) : Type 0 where
  pub inodes : records_in (a.group g) Ino ≡ ino_of a g
  pub free : records_in (a.group g) Fino ≡ fino_of a g

-- behind an inode that is taken of a chunk that is there, in every group; the entry names one that both trees have
abbrev pub TakenListed : Type 0
TakenListed = (a b : State) (left : List Kind) (writer ino uid h : ℕ) → HasFitting a.geometry → Step a left (entries.Taken writer ino uid None) b → AreListed a h → AreListed b h

-- behind the first of a new chunk, where both trees can be read
abbrev pub ChunkListed : Type 0
ChunkListed = (a b : State) (left : List Kind) (writer ino uid c h : ℕ) → HasFitting a.geometry → Step a left (entries.Taken writer ino uid (Some c)) b
    → is_readable ((a.group (group_of_inode a ino)).tree Ino).reading ≡ true → is_readable ((a.group (group_of_inode a ino)).tree Fino).reading ≡ true → AreListed a h → AreListed b h

-- behind one that is given back, where that of free inodes can be read
abbrev pub GivenListed : Type 0
GivenListed = (a b : State) (left : List Kind) (writer ino h : ℕ) → HasFitting a.geometry → Step a left (entries.Given writer ino) b
    → is_readable ((a.group (group_of_inode a ino)).tree Fino).reading ≡ true → AreListed a h → AreListed b h

-- ---- entries that take no inode and give none back

abbrev pub LeavesInodes : Entry → Type 0
LeavesInodes (entries.Mapped m) = Unit {0}
LeavesInodes (entries.Unmapped m) = Unit {0}
LeavesInodes (entries.Converted m) = Unit {0}
LeavesInodes (entries.Shared m) = Unit {0}
LeavesInodes (entries.RmapDone c ino g b n) = Unit {0}
LeavesInodes (entries.RefDone c g b n more) = Unit {0}
LeavesInodes (entries.Freed c g b n kept) = Unit {0}
LeavesInodes (entries.Refilled e) = Unit {0}
LeavesInodes (entries.Trimmed e) = Unit {0}
LeavesInodes (entries.Marked g k cause) = Unit {0}
LeavesInodes (entries.Reply writer line code done refused begun) = Unit {0}
LeavesInodes e = ⊥

abbrev pub OthersListed : Type 0
OthersListed = (a b : State) (left : List Kind) (e : Entry) (h : ℕ) → HasFitting a.geometry → Step a left e b → LeavesInodes e → LeavesChunks a e → AreListed a h → AreListed b h
