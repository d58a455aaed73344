-- Each entry of a writer whose inodes are held keeps each block sound, with the claims that the state has: one entry and its
-- row.
use Rattle.std.specs.Prelude.{ℕ, ◌≡◌, ◌<◌, Bool, true, false, List, [], None, Some}
use Rattle.law_accounts.specs.Account.Accounts.{in_span}
use Rattle.law_accounts.specs.Account.Chained.{IsChain}
use Rattle.law_accounts.specs.Account.Firsts.{run_shared}
use Rattle.law_accounts.specs.Account.Ledger.{Sound}
use Rattle.law_accounts.specs.Account.Listed.{AreEdited}
use Rattle.law_accounts.specs.Account.Space.{IsListing}
use Rattle.law_accounts.specs.Account.Stated.{ledger_at}
use Rattle.law_accounts.specs.Account.Steps.{IsWritten}
use Rattle.law_writers.specs.Change.Chunks.{LeavesChunks}
use Rattle.law_writers.specs.Change.Forks.{IsRunAt, IsSound}
use Rattle.fs_change.specs.Chains.{most_chains}
use Rattle.fs_change.specs.Changes.{extent_of}
use Rattle.fs_change.specs.Laws.{AreWords}
use Rattle.fs_change.specs.Parts.{sick_in}
use Rattle.fs_change.specs.Step.{Row, group_of_inode}
use Rattle.fs_model.specs.declared.entry.Entry.TheVariants as entries
use Rattle.fs_model.specs.declared.entry.Extent.{Extent}
use Rattle.fs_model.specs.declared.entry.Piece.{Piece}
use Rattle.fs_model.specs.declared.entry.SharedPiece.{SharedPiece}
use Rattle.fs_state.specs.State.{State, is_readable}
use Rattle.geom.specs.Apart.{HasFitting}
use Rattle.law_accounts.specs.Ref.Steps.{AreCounting}
use Rattle.sblock.specs.declared.kind.Kind.{Kind}
use Rattle.sblock.specs.declared.kind.Kind.TheVariants.{Ino, Rmap}
use Rattle.tree_defs.specs.Lists.{is_in}
use Rattle.law_writers.specs.Run.Found.{IsMade}
use Rattle.law_writers.specs.Held.Held.{AreHolders}

-- ---- first events; a chain whose inodes aren't asked for may begin with a mapping or a conversion

abbrev pub MappedKept : Type 0
MappedKept = (a x : State) (left : List Kind) (m : Piece) (b : ℕ) → HasFitting a.geometry → IsMade a x left (entries.Mapped m) → IsSound a m.ino → IsRunAt a (extent_of m) m.offset → IsListing [] (a.group m.group)
    → Sound (ledger_at a m.group b) → Sound (ledger_at x m.group b)

abbrev pub UnmappedKept : Type 0
UnmappedKept = (a x : State) (left : List Kind) (m : Piece) (held : ℕ → List ℕ) (g b : ℕ) → HasFitting a.geometry → Row a left (entries.Unmapped m) x → IsSound a m.ino → IsRunAt a (extent_of m) m.offset → is_in m.ino (held m.chain) ≡ true
    → AreHolders a held → Sound (ledger_at a g b) → Sound (ledger_at x g b)

abbrev pub ConvertedKept : Type 0
ConvertedKept = (a x : State) (left : List Kind) (m : Piece) (g b : ℕ) → HasFitting a.geometry → Row a left (entries.Converted m) x → IsSound a m.ino → IsRunAt a (extent_of m) m.offset → Sound (ledger_at a g b) → Sound (ledger_at x g b)

abbrev pub SharedKept : Type 0
SharedKept = (a x : State) (left : List Kind) (m : SharedPiece) (held : ℕ → List ℕ) (g b : ℕ) → HasFitting a.geometry → Row a left (entries.Shared m) x → IsSound a m.from → IsRunAt a (run_shared m) m.from_offset → IsSound a m.to
    → IsRunAt a (run_shared m) m.to_offset → is_in m.from (held m.chain) ≡ true → is_in m.to (held m.chain) ≡ true → AreHolders a held → Sound (ledger_at a g b) → Sound (ledger_at x g b)

-- ---- runs of the list

abbrev pub RefilledKept : Type 0
RefilledKept = (a x : State) (left : List Kind) (e : Extent) (b : ℕ) → HasFitting a.geometry → IsMade a x left (entries.Refilled e) → AreEdited (a.group e.group) → Sound (ledger_at a e.group b) → Sound (ledger_at x e.group b)

abbrev pub TrimmedKept : Type 0
TrimmedKept = (a x : State) (left : List Kind) (e : Extent) (b : ℕ) → HasFitting a.geometry → IsMade a x left (entries.Trimmed e) → AreEdited (a.group e.group) → Sound (ledger_at a e.group b) → Sound (ledger_at x e.group b)

-- ---- a new chunk, where the inode btree can be read and the heads' counters are words

abbrev pub ChunkKept : Type 0
ChunkKept = (a x : State) (left : List Kind) (writer ino uid c b : ℕ) → HasFitting a.geometry → IsMade a x left (entries.Taken writer ino uid (Some c)) → AreWords (x.group (group_of_inode a ino))
    → is_readable ((a.group (group_of_inode a ino)).tree Ino).reading ≡ true → AreEdited (a.group (group_of_inode a ino)) → Sound (ledger_at a (group_of_inode a ino) b) → Sound (ledger_at x (group_of_inode a ino) b)

-- ---- inodes of chunks that are there, and finished steps

abbrev pub TakenKept : Type 0
TakenKept = (a x : State) (left : List Kind) (writer ino uid b : ℕ) → HasFitting a.geometry → Row a left (entries.Taken writer ino uid None) x → Sound (ledger_at a (group_of_inode a ino) b) → Sound (ledger_at x (group_of_inode a ino) b)

abbrev pub GivenKept : Type 0
GivenKept = (a x : State) (left : List Kind) (writer ino b : ℕ) → HasFitting a.geometry → Row a left (entries.Given writer ino) x → Sound (ledger_at a (group_of_inode a ino) b) → Sound (ledger_at x (group_of_inode a ino) b)

abbrev pub RmapDoneKept : Type 0
RmapDoneKept = (a x : State) (left : List Kind) (c ino g at n b : ℕ) → HasFitting a.geometry → c < most_chains → IsMade a x left (entries.RmapDone c ino g at n) → IsWritten left (a.group g) → LeavesChunks a (entries.RmapDone c ino g at n)
    → Sound (ledger_at a g b) → Sound (ledger_at x g b)

abbrev pub RefDoneKept : Type 0
RefDoneKept = (a x : State) (left : List Kind) (c g at n : ℕ) (more : Bool) (b : ℕ) → HasFitting a.geometry → c < most_chains → AreCounting left (a.group g) → ((k : ℕ) → k < most_chains → IsChain (a.chains k))
    → Row a left (entries.RefDone c g at n more) x → Sound (ledger_at a g b) → Sound (ledger_at x g b)

-- a run that a chain frees, where reverse mappings can be asked and each of its blocks is sound
abbrev pub FreedKept : Type 0
FreedKept = (a x : State) (left : List Kind) (c g at n : ℕ) (kept : Bool) (b : ℕ) → HasFitting a.geometry → c < most_chains → IsListing left (a.group g) → sick_in (a.group g) Rmap ≡ false
    → ((k : ℕ) → in_span at n k ≡ true → Sound (ledger_at a g k)) → Row a left (entries.Freed c g at n kept) x → Sound (ledger_at a g b) → Sound (ledger_at x g b)
