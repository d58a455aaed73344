-- Chains hold what they held behind each entry of a writer, however edited trees are cut: one entry, its step, and what is
-- asked of it.
use Rattle.std.specs.Prelude.{ℕ, ◌≡◌, true, List, Some}
use Rattle.law_accounts.specs.Account.Firsts.{run_shared}
use Rattle.law_writers.specs.Change.Chunks.{LeavesChunks}
use Rattle.law_writers.specs.Change.Forks.{IsRunAt, IsSound}
use Rattle.fs_change.specs.Changes.{extent_of}
use Rattle.fs_change.specs.Laws.{AreWords}
use Rattle.fs_change.specs.Step.{Step, group_of_inode}
use Rattle.fs_model.specs.declared.entry.Entry.{Entry}
use Rattle.fs_model.specs.declared.entry.Entry.TheVariants as entries
use Rattle.fs_model.specs.declared.entry.Piece.{Piece}
use Rattle.fs_model.specs.declared.entry.SharedPiece.{SharedPiece}
use Rattle.fs_state.specs.State.{State, is_readable}
use Rattle.geom.specs.Apart.{HasFitting}
use Rattle.law_writers.specs.Held.Held.{AreHolders, LeavesForks}
use Rattle.sblock.specs.declared.kind.Kind.{Kind}
use Rattle.sblock.specs.declared.kind.Kind.TheVariants.{Ino}
use Rattle.tree_defs.specs.Lists.{is_in}

-- ---- first events, by chains that hold their inodes

abbrev pub MappedHolds : Type 0
MappedHolds = (a z : State) (left : List Kind) (m : Piece) (held : ℕ → List ℕ) → HasFitting a.geometry
    → Step a left (entries.Mapped m) z → IsSound a m.ino → IsRunAt a (extent_of m) m.offset
    → is_in m.ino (held m.chain) ≡ true → AreHolders a held → AreHolders z held

abbrev pub UnmappedHolds : Type 0
UnmappedHolds = (a z : State) (left : List Kind) (m : Piece) (held : ℕ → List ℕ) → HasFitting a.geometry
    → Step a left (entries.Unmapped m) z → IsSound a m.ino → IsRunAt a (extent_of m) m.offset
    → is_in m.ino (held m.chain) ≡ true → AreHolders a held → AreHolders z held

abbrev pub ConvertedHolds : Type 0
ConvertedHolds = (a z : State) (left : List Kind) (m : Piece) (held : ℕ → List ℕ) → HasFitting a.geometry
    → Step a left (entries.Converted m) z → IsSound a m.ino → IsRunAt a (extent_of m) m.offset
    → is_in m.ino (held m.chain) ≡ true → AreHolders a held → AreHolders z held

abbrev pub SharedHolds : Type 0
SharedHolds = (a z : State) (left : List Kind) (m : SharedPiece) (held : ℕ → List ℕ) → HasFitting a.geometry
    → Step a left (entries.Shared m) z → IsSound a m.from → IsRunAt a (run_shared m) m.from_offset → IsSound a m.to
    → IsRunAt a (run_shared m) m.to_offset → is_in m.from (held m.chain) ≡ true → is_in m.to (held m.chain) ≡ true
    → AreHolders a held → AreHolders z held

-- ---- all other entries of a writer but a new chunk, and one that makes a chunk

abbrev pub OthersHold : Type 0
OthersHold = (a z : State) (left : List Kind) (e : Entry) (held : ℕ → List ℕ) → HasFitting a.geometry → Step a left e z
    → LeavesForks e → LeavesChunks a e → AreHolders a held → AreHolders z held

abbrev pub ChunkHolds : Type 0
ChunkHolds = (a z : State) (left : List Kind) (writer ino uid c : ℕ) (held : ℕ → List ℕ) → HasFitting a.geometry
    → (s : Step a left (entries.Taken writer ino uid (Some c)) z) → AreWords (s.decided.group (group_of_inode a ino))
    → is_readable ((a.group (group_of_inode a ino)).tree Ino).reading ≡ true → AreHolders a held → AreHolders z held
