-- Free space and reference counts stay in order, and as few records as can be: one entry and its row.
use Rattle.std.specs.Prelude.{ℕ, ◌≡◌, ◌<◌, Bool, true, List, [], Some, is_some}
use Rattle.derive_defs.specs.ByCount.{ordered_by_count}
use Rattle.fs_change.specs.Chains.{most_chains}
use Rattle.fs_change.specs.Changes.{chunk_extent, extent_of}
use Rattle.fs_change.specs.Parts.{is_edited, records_in}
use Rattle.fs_change.specs.Records.{holder_of, span}
use Rattle.fs_change.specs.Step.{Row, group_of_inode}
use Rattle.fs_model.specs.declared.entry.Entry.TheVariants as entries
use Rattle.fs_model.specs.declared.entry.Extent.{Extent}
use Rattle.fs_model.specs.declared.entry.Piece.{Piece}
use Rattle.fs_state.specs.State.{State, Group, is_readable}
use Rattle.sblock.specs.declared.kind.Kind.{Kind}
use Rattle.sblock.specs.declared.kind.Kind.TheVariants.{Bno, Cnt, Refc}
use Rattle.law_accounts.specs.Account.Accounts.{in_span, spans_at}
use Rattle.law_accounts.specs.Account.Guard.{AreSound}
use Rattle.law_accounts.specs.Account.Space.{IsListing}
use Rattle.law_accounts.specs.Count.Counted.{AreShown}
use Rattle.law_accounts.specs.Ref.Steps.{AreCounting}

-- ---- free space

-- it can be edited in both orders; by start it lists maximal runs, and by count the same
pub record IsOrdered (left : List Kind) (p : Group) : Type 0 where
  pub listing : IsListing left p
  pub edited : is_edited left p Cnt ≡ true
  pub readable : is_readable (p.tree Cnt).reading ≡ true
  pub ordered : records_in p Cnt ≡ ordered_by_count (records_in p Bno)

-- a record of free space holds the run
abbrev pub IsHeld : Group → Extent → Type 0
IsHeld p e = is_some (holder_of (records_in p Bno) (span e.block e.count)) ≡ true

-- none has a block of it
abbrev pub IsUnlisted : Group → Extent → Type 0
IsUnlisted p e = (b : ℕ) → in_span e.block e.count b ≡ true → spans_at (records_in p Bno) b ≡ 0

-- a run that is mapped, that fills the list, or that becomes a chunk leaves it
abbrev pub MappedOrdered : Type 0
MappedOrdered = (a x : State) (left : List Kind) (m : Piece) → IsHeld (a.group m.group) (extent_of m) → Row a left (entries.Mapped m) x → IsOrdered [] (a.group m.group) → IsOrdered [] (x.group m.group)

abbrev pub RefilledOrdered : Type 0
RefilledOrdered = (a x : State) (left : List Kind) (e : Extent) → IsHeld (a.group e.group) e → Row a left (entries.Refilled e) x → IsOrdered [] (a.group e.group) → IsOrdered [] (x.group e.group)

abbrev pub ChunkOrdered : Type 0
ChunkOrdered = (a x : State) (left : List Kind) (writer ino uid c : ℕ) → IsHeld (a.group (group_of_inode a ino)) (chunk_extent (group_of_inode a ino) c)
    → Row a left (entries.Taken writer ino uid (Some c)) x → IsOrdered [] (a.group (group_of_inode a ino)) → IsOrdered [] (x.group (group_of_inode a ino))

-- one that is freed, each block of which is sound, or that leaves the list and isn't free joins it
abbrev pub FreedOrdered : Type 0
FreedOrdered = (a x : State) (left : List Kind) (c g at n : ℕ) (kept : Bool) → c < most_chains → AreSound a g at n → Row a left (entries.Freed c g at n kept) x → IsOrdered left (a.group g) → IsOrdered left (x.group g)

abbrev pub TrimmedOrdered : Type 0
TrimmedOrdered = (a x : State) (left : List Kind) (e : Extent) → IsUnlisted (a.group e.group) e → Row a left (entries.Trimmed e) x → IsOrdered [] (a.group e.group) → IsOrdered [] (x.group e.group)

-- ---- reference counts

-- a finished step of theirs leaves as few records as can be
abbrev pub CountsShown : Type 0
CountsShown = (a x : State) (left : List Kind) (c g at n : ℕ) (more : Bool) → AreCounting left (a.group g) → Row a left (entries.RefDone c g at n more) x → AreShown (records_in (a.group g) Refc) → AreShown (records_in (x.group g) Refc)
