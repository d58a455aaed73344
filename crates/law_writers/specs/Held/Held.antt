-- The inodes that chains hold, and that each entry of a writer leaves them as many mappings as their counts need.
use Rattle.std.specs.Prelude.{ℕ, ◌≡◌, true, List, None, Some}
use Rattle.law_accounts.specs.Account.Accounts.{owned_at}
use Rattle.law_accounts.specs.Account.Chained.{AreHeld, ArePaired}
use Rattle.law_accounts.specs.Account.Firsts.{run_shared}
use Rattle.law_writers.specs.Change.Chunks.{LeavesChunks}
use Rattle.law_writers.specs.Change.Forks.{IsRunAt, IsSound}
use Rattle.fs_change.specs.Changes.{extent_of}
use Rattle.fs_change.specs.Laws.{AreWords}
use Rattle.fs_change.specs.Step.{Row, group_of_inode}
use Rattle.fs_state.specs.Chunks.{inodes}
use Rattle.fs_state.specs.Claims.{data_claims}
use Rattle.fs_model.specs.declared.entry.Entry.{Entry}
use Rattle.fs_model.specs.declared.entry.Entry.TheVariants as entries
use Rattle.fs_model.specs.declared.entry.Piece.{Piece}
use Rattle.fs_model.specs.declared.entry.SharedPiece.{SharedPiece}
use Rattle.fs_state.specs.State.{State, is_readable}
use Rattle.geom.specs.Apart.{HasFitting}
use Rattle.sblock.specs.declared.kind.Kind.{Kind}
use Rattle.sblock.specs.declared.kind.Kind.TheVariants.{Ino}
use Rattle.tree_defs.specs.Lists.{is_in}
use Rattle.law_writers.specs.Run.Found.{IsMade}

-- how often the data of an inode has the block
abbrev pub weight_at : State → ℕ → ℕ → ℕ → ℕ
weight_at a g b ino = owned_at b (data_claims a g ino)

-- No inode is held twice; and those that a chain holds map each block twice for each count of it that will rise.
pub record AreHolders (a : State) (held : ℕ → List ℕ) : Type 0 where
  pub apart : AreHeld (inodes a) held
  pub paired : (g b : ℕ) → ArePaired a.chains held (weight_at a g b) g b

-- ---- first events, by chains that hold their inodes

abbrev pub MappedHeld : Type 0
MappedHeld = (a x : State) (left : List Kind) (m : Piece) (held : ℕ → List ℕ) → HasFitting a.geometry → Row a left (entries.Mapped m) x → IsSound a m.ino → IsRunAt a (extent_of m) m.offset → is_in m.ino (held m.chain) ≡ true
    → AreHolders a held → AreHolders x held

abbrev pub UnmappedHeld : Type 0
UnmappedHeld = (a x : State) (left : List Kind) (m : Piece) (held : ℕ → List ℕ) → HasFitting a.geometry → Row a left (entries.Unmapped m) x → IsSound a m.ino → IsRunAt a (extent_of m) m.offset → is_in m.ino (held m.chain) ≡ true
    → AreHolders a held → AreHolders x held

abbrev pub ConvertedHeld : Type 0
ConvertedHeld = (a x : State) (left : List Kind) (m : Piece) (held : ℕ → List ℕ) → HasFitting a.geometry → Row a left (entries.Converted m) x → IsSound a m.ino → IsRunAt a (extent_of m) m.offset → is_in m.ino (held m.chain) ≡ true
    → AreHolders a held → AreHolders x held

abbrev pub SharedHeld : Type 0
SharedHeld = (a x : State) (left : List Kind) (m : SharedPiece) (held : ℕ → List ℕ) → HasFitting a.geometry → Row a left (entries.Shared m) x → IsSound a m.from → IsRunAt a (run_shared m) m.from_offset → IsSound a m.to
    → IsRunAt a (run_shared m) m.to_offset → is_in m.from (held m.chain) ≡ true → is_in m.to (held m.chain) ≡ true → AreHolders a held → AreHolders x held

-- ---- all other entries of a writer but a new chunk, and one that makes a chunk

abbrev pub LeavesForks : Entry → Type 0
LeavesForks (entries.RmapDone c ino g b n) = Unit {0}
LeavesForks (entries.RefDone c g b n more) = Unit {0}
LeavesForks (entries.Freed c g b n kept) = Unit {0}
LeavesForks (entries.Taken writer ino uid None) = Unit {0}
LeavesForks (entries.Given writer ino) = Unit {0}
LeavesForks (entries.Refilled e) = Unit {0}
LeavesForks (entries.Trimmed e) = Unit {0}
LeavesForks (entries.Marked g k cause) = Unit {0}
LeavesForks (entries.Reply writer line code done refused begun) = Unit {0}
LeavesForks e = ⊥

abbrev pub OthersHeld : Type 0
OthersHeld = (a x : State) (left : List Kind) (e : Entry) (held : ℕ → List ℕ) → HasFitting a.geometry → Row a left e x → LeavesForks e → LeavesChunks a e → AreHolders a held → AreHolders x held

abbrev pub ChunkHeld : Type 0
ChunkHeld = (a x : State) (left : List Kind) (writer ino uid c : ℕ) (held : ℕ → List ℕ) → HasFitting a.geometry → IsMade a x left (entries.Taken writer ino uid (Some c)) → AreWords (x.group (group_of_inode a ino))
    → is_readable ((a.group (group_of_inode a ino)).tree Ino).reading ≡ true → AreHolders a held → AreHolders x held
