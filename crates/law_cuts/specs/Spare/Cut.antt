-- Behind an entry edited trees are cut into blocks anew, and blocks may get another owner: what is asked for that.
use Rattle.std.specs.Prelude.{ℕ, ◌≡◌, ◌==◌, ◌<◌, false, List}
use Rattle.law_accounts.specs.Account.Firsts.{run_shared}
use Rattle.law_accounts.specs.Account.Ledger.{Sound}
use Rattle.law_accounts.specs.Account.Stated.{ledger_at}
use Rattle.law_accounts.specs.Account.Steps.{IsWritten}
use Rattle.law_writers.specs.Change.Chunks.{LeavesChunks}
use Rattle.law_writers.specs.Change.Forks.{IsRunAt, IsSound}
use Rattle.law_writers.specs.Change.Settled.{LeavesOwners}
use Rattle.law_cuts.specs.Cut.Told.{MayMove}
use Rattle.fs_change.specs.Chains.{most_chains}
use Rattle.fs_change.specs.Changes.{extent_of}
use Rattle.fs_change.specs.Loose.{pool_of}
use Rattle.fs_change.specs.Parts.{sick_in}
use Rattle.fs_change.specs.Step.{Step, group_of_entry, group_of_inode}
use Rattle.fs_model.specs.declared.entry.Entry.{Entry}
use Rattle.fs_model.specs.declared.entry.Entry.TheVariants as entries
use Rattle.fs_model.specs.declared.unit.Unit.TheVariants as units
use Rattle.fs_state.specs.Group.{is_among}
use Rattle.fs_state.specs.State.{State}
use Rattle.geom.specs.Apart.{HasFitting}
use Rattle.law_accounts.specs.Owner.Told.{AreTold}
use Rattle.sblock.specs.declared.kind.Kind.{Kind}
use Rattle.sblock.specs.declared.kind.Kind.TheVariants.{Rmap}
use Rattle.tree_defs.specs.Lists.{AllDiffer}

-- What is asked where an entry's trees are cut anew? Where all that it edits have the list's owner, that no block of trees,
-- list and limbo stands there twice; where one has another, that blocks may move; and nothing where none is edited.
abbrev pub MayCut : (a z : State) (left : List Kind) (e : Entry) → Step a left e z → Type 0
MayCut a z left (entries.Mapped m) s = AllDiffer (pool_of (s.decided.group m.group))
MayCut a z left (entries.RmapDone c ino g b n) s = AllDiffer (pool_of (s.decided.group g))
MayCut a z left (entries.Freed c g b n false) s = AllDiffer (pool_of (s.decided.group g))
MayCut a z left (entries.Refilled e) s = AllDiffer (pool_of (s.decided.group e.group))
MayCut a z left (entries.Trimmed e) s = AllDiffer (pool_of (s.decided.group e.group))
MayCut a z left (entries.Reserved g units.Rmap b false) s = Unit {0}
MayCut a z left (entries.Reserved g units.Free b false) s = Unit {0}
MayCut a z left (entries.Reserved g unit b spare) s = AllDiffer (pool_of (s.decided.group g))
MayCut a z left (entries.Reaped e) s = AllDiffer (pool_of (s.decided.group e.group))
MayCut a z left (entries.RefDone c g b n more) s = MayMove left s.decided z g
MayCut a z left (entries.Taken writer ino uid chunk) s = MayMove left s.decided z (group_of_inode a ino)
MayCut a z left (entries.Given writer ino) s = MayMove left s.decided z (group_of_inode a ino)
MayCut a z left e s = Unit {0}

-- then mappings that tell settled owners of the state that a row decides do so behind the entry, in every group
abbrev pub CutTold : Type 0
CutTold = (a z : State) (left : List Kind) (e : Entry) (h : ℕ) → HasFitting a.geometry → (s : Step a left e z)
    → MayCut a z left e s → AreTold s.decided h → AreTold z h

-- no block stands there twice where each is sound
abbrev pub SoundOnce : Type 0
SoundOnce = (x : State) (g : ℕ) → ((b : ℕ) → Sound (ledger_at x g b)) → AllDiffer (pool_of (x.group g))

-- mappings that tell settled owners, aren't sick and aren't left can be edited: heads have a block, so they can be read
abbrev pub ToldWritten : Type 0
ToldWritten = (a : State) (left : List Kind) (g : ℕ) → AreTold a g → sick_in (a.group g) Rmap ≡ false
    → is_among Rmap left ≡ false → IsWritten left (a.group g)

-- What is asked of an entry elsewhere? Of a first event that the forks which it changes are in order and its run lies in a
-- group; of a finished step that its chain is one, and of an owner that chunks don't have; of others that chunks stay, but
-- for a new one, where the inode btree can be read.
abbrev pub LeavesElsewhere : State → Entry → Type 0
LeavesElsewhere a (entries.Mapped m) = IsSound a m.ino × IsRunAt a (extent_of m) m.offset
LeavesElsewhere a (entries.Unmapped m) = IsSound a m.ino × IsRunAt a (extent_of m) m.offset
LeavesElsewhere a (entries.Converted m) = IsSound a m.ino × IsRunAt a (extent_of m) m.offset
LeavesElsewhere a (entries.Shared m) = IsSound a m.to × IsRunAt a (run_shared m) m.to_offset
LeavesElsewhere a (entries.RmapDone c ino g b n) = (c < most_chains) × LeavesChunks a (entries.RmapDone c ino g b n)
LeavesElsewhere a e = LeavesOwners a e

-- then the mappings of other groups go on telling settled owners, whoever makes the entry
abbrev pub ElsewhereTold : Type 0
ElsewhereTold = (a z : State) (left : List Kind) (e : Entry) (h : ℕ) → HasFitting a.geometry → Step a left e z
    → LeavesElsewhere a e → (h == group_of_entry a e) ≡ false → AreTold a h → AreTold z h
