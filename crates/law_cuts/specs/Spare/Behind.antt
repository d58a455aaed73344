-- Reverse mappings that tell settled owners do so behind each entry of a writer, however edited trees are cut: one entry,
-- its step, and what is asked of it.
use Rattle.std.specs.Prelude.{ℕ, ◌≡◌, ◌<◌, true, false, List, None, Some}
use Rattle.law_accounts.specs.Account.Accounts.{in_span}
use Rattle.law_accounts.specs.Account.Firsts.{run_shared}
use Rattle.law_accounts.specs.Account.Ledger.{Sound}
use Rattle.law_accounts.specs.Account.Stated.{ledger_at}
use Rattle.law_accounts.specs.Account.Steps.{IsWritten}
use Rattle.law_writers.specs.Change.Chunks.{LeavesChunks}
use Rattle.law_writers.specs.Change.Forks.{IsRunAt, IsSound}
use Rattle.law_writers.specs.Change.Settled.{IsNextOnce, LeavesOwners}
use Rattle.fs_change.specs.Chains.{most_chains, settled_forks}
use Rattle.fs_change.specs.Changes.{chunk_extent, extent_of}
use Rattle.fs_change.specs.Laws.{AreWords}
use Rattle.fs_change.specs.Step.{Step, group_of_inode}
use Rattle.fs_model.specs.declared.entry.Entry.{Entry}
use Rattle.fs_model.specs.declared.entry.Entry.TheVariants as entries
use Rattle.fs_model.specs.declared.entry.Extent.{Extent}
use Rattle.fs_model.specs.declared.entry.Piece.{Piece}
use Rattle.fs_model.specs.declared.entry.SharedPiece.{SharedPiece}
use Rattle.fs_state.specs.State.{State, is_readable}
use Rattle.geom.specs.Apart.{HasFitting}
use Rattle.law_accounts.specs.Owner.Kept.{IsOwedNext, LeavesMappings}
use Rattle.law_accounts.specs.Owner.Told.{AreTold}
use Rattle.rmap_recs.specs.Owners.{number_of}
use Rattle.rmap_recs.specs.Runs.{has}
use Rattle.rmap_recs.specs.declared.owner.Owner.TheVariants.{Ag, Inodes}
use Rattle.rmap_recs.specs.declared.tuples.Tuple.{Tuple}
use Rattle.sblock.specs.declared.kind.Kind.{Kind}
use Rattle.sblock.specs.declared.kind.Kind.TheVariants.{Ino}
use Rattle.law_writers.specs.Told.Listed.{IsRunOf}
use Rattle.law_cuts.specs.Spare.Cut.{MayCut}

-- ---- first events, in every group

abbrev pub MappedTells : Type 0
MappedTells = (a z : State) (left : List Kind) (m : Piece) (h : ℕ) → HasFitting a.geometry
    → (s : Step a left (entries.Mapped m) z) → IsSound a m.ino → IsRunAt a (extent_of m) m.offset
    → MayCut a z left (entries.Mapped m) s → AreTold a h → AreTold z h

abbrev pub UnmappedTells : Type 0
UnmappedTells = (a z : State) (left : List Kind) (m : Piece) (h : ℕ) → HasFitting a.geometry
    → Step a left (entries.Unmapped m) z → IsSound a m.ino → IsRunAt a (extent_of m) m.offset → AreTold a h
    → AreTold z h

abbrev pub ConvertedTells : Type 0
ConvertedTells = (a z : State) (left : List Kind) (m : Piece) (h : ℕ) → HasFitting a.geometry
    → Step a left (entries.Converted m) z → IsSound a m.ino → IsRunAt a (extent_of m) m.offset → AreTold a h
    → AreTold z h

abbrev pub SharedTells : Type 0
SharedTells = (a z : State) (left : List Kind) (m : SharedPiece) (h : ℕ) → HasFitting a.geometry
    → Step a left (entries.Shared m) z → IsSound a m.to → IsRunAt a (run_shared m) m.to_offset → AreTold a h
    → AreTold z h

-- ---- steps of counts, freed runs, trust, replies and a released reserve, in every group

abbrev pub OthersTell : Type 0
OthersTell = (a z : State) (left : List Kind) (e : Entry) (h : ℕ) → HasFitting a.geometry → (s : Step a left e z)
    → LeavesMappings e → LeavesOwners a e → MayCut a z left e s → AreTold a h → AreTold z h

-- ---- a finished step of reverse mappings, in its own group

abbrev pub FinishedTells : Type 0
FinishedTells = (a z : State) (left : List Kind) (c ino g at n : ℕ) → HasFitting a.geometry → c < most_chains
    → (s : Step a left (entries.RmapDone c ino g at n) z) → LeavesChunks a (entries.RmapDone c ino g at n)
    → IsWritten left (a.group g) → IsNextOnce a z g (a.chains c) → IsOwedNext a s.decided g (a.chains c)
    → MayCut a z left (entries.RmapDone c ino g at n) s → AreTold a g → AreTold z g

-- ---- an inode of a chunk that is there, in every group

abbrev pub TakenTells : Type 0
TakenTells = (a z : State) (left : List Kind) (writer ino uid h : ℕ) → HasFitting a.geometry
    → (s : Step a left (entries.Taken writer ino uid None) z) → MayCut a z left (entries.Taken writer ino uid None) s
    → AreTold a h → AreTold z h

abbrev pub GivenTells : Type 0
GivenTells = (a z : State) (left : List Kind) (writer ino h : ℕ) → HasFitting a.geometry
    → (s : Step a left (entries.Given writer ino) z) → MayCut a z left (entries.Given writer ino) s → AreTold a h
    → AreTold z h

-- ---- runs of the list, and a new chunk, in their own group

abbrev pub RefilledTells : Type 0
RefilledTells = (a z : State) (left : List Kind) (e : Extent) → HasFitting a.geometry
    → (s : Step a left (entries.Refilled e) z) → IsRunOf a s.decided (number_of Ag) e
    → MayCut a z left (entries.Refilled e) s → ((h : ℕ) → AreTold a h) → AreTold z e.group

abbrev pub TrimmedTells : Type 0
TrimmedTells = (a z : State) (left : List Kind) (e : Extent) → HasFitting a.geometry
    → (s : Step a left (entries.Trimmed e) z) → IsRunOf a s.decided (number_of Ag) e
    → ((t : Tuple) → t.owner ≡ number_of Ag → has (settled_forks a e.group) t ≡ false)
    → ((b : ℕ) → in_span e.block e.count b ≡ true → Sound (ledger_at a e.group b))
    → MayCut a z left (entries.Trimmed e) s → AreTold a e.group → AreTold z e.group

abbrev pub ChunkTells : Type 0
ChunkTells = (a z : State) (left : List Kind) (writer ino uid c : ℕ) → HasFitting a.geometry
    → (s : Step a left (entries.Taken writer ino uid (Some c)) z) → AreWords (s.decided.group (group_of_inode a ino))
    → is_readable ((a.group (group_of_inode a ino)).tree Ino).reading ≡ true
    → IsRunOf a s.decided (number_of Inodes) (chunk_extent (group_of_inode a ino) c)
    → MayCut a z left (entries.Taken writer ino uid (Some c)) s → ((h : ℕ) → AreTold a h)
    → AreTold z (group_of_inode a ino)
