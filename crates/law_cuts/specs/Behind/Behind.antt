-- Behind each entry of a writer whose inodes are held, a block that was sound is sound, however edited trees are cut: one
-- entry, its step, and what is asked of it.
use Rattle.std.specs.Prelude.{ℕ, ◌≡◌, ◌==◌, ◌<◌, Bool, true, false, List, [], None, Some}
use Rattle.law_accounts.specs.Account.Accounts.{in_span}
use Rattle.law_accounts.specs.Account.Chained.{IsChain}
use Rattle.law_accounts.specs.Account.Firsts.{run_shared}
use Rattle.law_accounts.specs.Account.Ledger.{Sound}
use Rattle.law_accounts.specs.Account.Listed.{AreEdited}
use Rattle.law_accounts.specs.Account.Space.{IsListing}
use Rattle.law_accounts.specs.Account.Stated.{ledger_at}
use Rattle.law_accounts.specs.Account.Steps.{IsWritten}
use Rattle.law_writers.specs.Beside.Elsewhere.{IsAsked}
use Rattle.law_writers.specs.Change.Chunks.{LeavesChunks}
use Rattle.law_writers.specs.Change.Forks.{IsRunAt, IsSound}
use Rattle.fs_change.specs.Chains.{most_chains}
use Rattle.fs_change.specs.Changes.{extent_of}
use Rattle.fs_change.specs.Laws.{AreWords}
use Rattle.fs_change.specs.Parts.{sick_in}
use Rattle.fs_change.specs.Step.{Step, group_of_entry, group_of_inode}
use Rattle.fs_model.specs.declared.entry.Entry.{Entry}
use Rattle.fs_model.specs.declared.entry.Entry.TheVariants as entries
use Rattle.fs_model.specs.declared.entry.Extent.{Extent}
use Rattle.fs_model.specs.declared.entry.Piece.{Piece}
use Rattle.fs_model.specs.declared.entry.SharedPiece.{SharedPiece}
use Rattle.fs_state.specs.State.{State, is_readable}
use Rattle.geom.specs.Apart.{HasFitting}
use Rattle.law_accounts.specs.Ref.Steps.{AreCounting}
use Rattle.sblock.specs.declared.kind.Kind.{Kind}
use Rattle.sblock.specs.declared.kind.Kind.TheVariants.{Ino, Rmap}
use Rattle.tree_defs.specs.Lists.{is_in}
use Rattle.law_writers.specs.Held.Held.{AreHolders}

abbrev pub MappedBehind : Type 0
MappedBehind = (a z : State) (left : List Kind) (m : Piece) (b : ℕ) → HasFitting a.geometry → (s : Step a left (entries.Mapped m) z)
    → IsSound a m.ino → IsRunAt a (extent_of m) m.offset → IsListing [] (a.group m.group) → Sound (ledger_at a m.group b) → Sound (ledger_at z m.group b)

abbrev pub UnmappedBehind : Type 0
UnmappedBehind = (a z : State) (left : List Kind) (m : Piece) (held : ℕ → List ℕ) (g b : ℕ) → HasFitting a.geometry → (s : Step a left (entries.Unmapped m) z)
    → IsSound a m.ino → IsRunAt a (extent_of m) m.offset → is_in m.ino (held m.chain) ≡ true → AreHolders a held → Sound (ledger_at a g b) → Sound (ledger_at z g b)

abbrev pub ConvertedBehind : Type 0
ConvertedBehind = (a z : State) (left : List Kind) (m : Piece) (g b : ℕ) → HasFitting a.geometry → (s : Step a left (entries.Converted m) z)
    → IsSound a m.ino → IsRunAt a (extent_of m) m.offset → Sound (ledger_at a g b) → Sound (ledger_at z g b)

abbrev pub SharedBehind : Type 0
SharedBehind = (a z : State) (left : List Kind) (m : SharedPiece) (held : ℕ → List ℕ) (g b : ℕ) → HasFitting a.geometry → (s : Step a left (entries.Shared m) z)
    → IsSound a m.from → IsRunAt a (run_shared m) m.from_offset → IsSound a m.to → IsRunAt a (run_shared m) m.to_offset → is_in m.from (held m.chain) ≡ true → is_in m.to (held m.chain) ≡ true → AreHolders a held → Sound (ledger_at a g b) → Sound (ledger_at z g b)

abbrev pub RefilledBehind : Type 0
RefilledBehind = (a z : State) (left : List Kind) (e : Extent) (b : ℕ) → HasFitting a.geometry → (s : Step a left (entries.Refilled e) z)
    → AreEdited (a.group e.group) → Sound (ledger_at a e.group b) → Sound (ledger_at z e.group b)

abbrev pub TrimmedBehind : Type 0
TrimmedBehind = (a z : State) (left : List Kind) (e : Extent) (b : ℕ) → HasFitting a.geometry → (s : Step a left (entries.Trimmed e) z)
    → AreEdited (a.group e.group) → Sound (ledger_at a e.group b) → Sound (ledger_at z e.group b)

abbrev pub ChunkBehind : Type 0
ChunkBehind = (a z : State) (left : List Kind) (writer ino uid c b : ℕ) → HasFitting a.geometry → (s : Step a left (entries.Taken writer ino uid (Some c)) z)
    → AreWords (s.decided.group (group_of_inode a ino)) → is_readable ((a.group (group_of_inode a ino)).tree Ino).reading ≡ true → AreEdited (a.group (group_of_inode a ino)) → Sound (ledger_at a (group_of_inode a ino) b) → Sound (ledger_at z (group_of_inode a ino) b)

abbrev pub TakenBehind : Type 0
TakenBehind = (a z : State) (left : List Kind) (writer ino uid b : ℕ) → HasFitting a.geometry → (s : Step a left (entries.Taken writer ino uid None) z)
    → Sound (ledger_at a (group_of_inode a ino) b) → Sound (ledger_at z (group_of_inode a ino) b)

abbrev pub GivenBehind : Type 0
GivenBehind = (a z : State) (left : List Kind) (writer ino b : ℕ) → HasFitting a.geometry → (s : Step a left (entries.Given writer ino) z)
    → Sound (ledger_at a (group_of_inode a ino) b) → Sound (ledger_at z (group_of_inode a ino) b)

abbrev pub RmapDoneBehind : Type 0
RmapDoneBehind = (a z : State) (left : List Kind) (c ino g at n b : ℕ) → HasFitting a.geometry → c < most_chains → (s : Step a left (entries.RmapDone c ino g at n) z)
    → IsWritten left (a.group g) → LeavesChunks a (entries.RmapDone c ino g at n) → Sound (ledger_at a g b) → Sound (ledger_at z g b)

abbrev pub RefDoneBehind : Type 0
RefDoneBehind = (a z : State) (left : List Kind) (c g at n : ℕ) (more : Bool) (b : ℕ) → HasFitting a.geometry → c < most_chains → AreCounting left (a.group g) → ((k : ℕ) → k < most_chains → IsChain (a.chains k)) → (s : Step a left (entries.RefDone c g at n more) z)
    → Sound (ledger_at a g b) → Sound (ledger_at z g b)

abbrev pub FreedBehind : Type 0
FreedBehind = (a z : State) (left : List Kind) (c g at n : ℕ) (kept : Bool) (b : ℕ) → HasFitting a.geometry → c < most_chains → IsListing left (a.group g) → sick_in (a.group g) Rmap ≡ false → ((k : ℕ) → in_span at n k ≡ true → Sound (ledger_at a g k)) → (s : Step a left (entries.Freed c g at n kept) z)
    → Sound (ledger_at a g b) → Sound (ledger_at z g b)

-- and so it is in all other groups
abbrev pub ElsewhereBehind : Type 0
ElsewhereBehind = (a z : State) (left : List Kind) (e : Entry) (h b : ℕ) → HasFitting a.geometry → (s : Step a left e z) → IsAsked a s.decided e → (h == group_of_entry a e) ≡ false
    → Sound (ledger_at a h b) → Sound (ledger_at z h b)
