-- Reverse mappings that tell settled owners behind inodes taken or given back, new chunks, and runs of the free list: one
-- entry, and what an event has of it.
use Rattle.std.specs.Prelude.{ℕ, ◌≡◌, true, false, List, [], None, Some}
use Rattle.law_accounts.specs.Account.Ledger.{Sound}
use Rattle.law_accounts.specs.Account.Accounts.{in_span}
use Rattle.law_accounts.specs.Account.Stated.{ledger_at}
use Rattle.law_accounts.specs.Account.Steps.{IsWritten}
use Rattle.fs_change.specs.Chains.{settled_forks, settled_own}
use Rattle.fs_change.specs.Changes.{chunk_extent, plain_run}
use Rattle.fs_change.specs.Laws.{AreWords}
use Rattle.fs_change.specs.Step.{Row, group_of_inode}
use Rattle.fs_model.specs.declared.entry.Entry.TheVariants as entries
use Rattle.fs_model.specs.declared.entry.Extent.{Extent}
use Rattle.fs_state.specs.State.{State, is_readable}
use Rattle.geom.specs.Apart.{HasFitting}
use Rattle.law_accounts.specs.Owner.Told.{AreTold}
use Rattle.rmap_recs.specs.Owners.{number_of}
use Rattle.rmap_recs.specs.Rmap.{has_end}
use Rattle.rmap_recs.specs.Runs.{has}
use Rattle.rmap_recs.specs.declared.owner.Owner.TheVariants.{Ag, Inodes}
use Rattle.rmap_recs.specs.declared.tuples.Tuple.{Tuple}
use Rattle.run_edits.specs.EditLaws.{AreUntied}
use Rattle.law_writers.specs.Run.Found.{IsMade}
use Rattle.sblock.specs.declared.kind.Kind.{Kind}
use Rattle.sblock.specs.declared.kind.Kind.TheVariants.{Ino}

-- an inode of a chunk that is there, in every group
abbrev pub TakenListTold : Type 0
TakenListTold = (a x : State) (left : List Kind) (writer ino uid h : ℕ) → HasFitting a.geometry → Row a left (entries.Taken writer ino uid None) x → AreTold a h → AreTold x h

abbrev pub GivenListTold : Type 0
GivenListTold = (a x : State) (left : List Kind) (writer ino h : ℕ) → HasFitting a.geometry → Row a left (entries.Given writer ino) x → AreTold a h → AreTold x h

-- What is known of a run that gets an owner, or loses it? It ends, mappings can be edited, and no two owners behind the
-- entry differ in the unwritten flag alone.
pub record IsRunOf (a x : State) (owner : ℕ) (e : Extent) : Type 0 where
  pub ends : has_end (plain_run owner e) ≡ true
  pub written : IsWritten [] (a.group e.group)
  pub untied : AreUntied (settled_own x e.group)

-- where each group's mappings tell its owners, a run that fills the list is nobody's
abbrev pub RefilledListTold : Type 0
RefilledListTold = (a x : State) (left : List Kind) (e : Extent) → HasFitting a.geometry → Row a left (entries.Refilled e) x → IsRunOf a x (number_of Ag) e → ((h : ℕ) → AreTold a h) → AreTold x e.group

-- one that leaves it is sound, and no fork is to have the owner that it has
abbrev pub TrimmedListTold : Type 0
TrimmedListTold = (a x : State) (left : List Kind) (e : Extent) → HasFitting a.geometry → Row a left (entries.Trimmed e) x → IsRunOf a x (number_of Ag) e → ((t : Tuple) → t.owner ≡ number_of Ag → has (settled_forks a e.group) t ≡ false)
    → ((b : ℕ) → in_span e.block e.count b ≡ true → Sound (ledger_at a e.group b)) → AreTold a e.group → AreTold x e.group

-- and so is a new chunk
abbrev pub ChunkListTold : Type 0
ChunkListTold = (a x : State) (left : List Kind) (writer ino uid c : ℕ) → HasFitting a.geometry → IsMade a x left (entries.Taken writer ino uid (Some c)) → AreWords (x.group (group_of_inode a ino))
    → is_readable ((a.group (group_of_inode a ino)).tree Ino).reading ≡ true → IsRunOf a x (number_of Inodes) (chunk_extent (group_of_inode a ino) c) → ((h : ℕ) → AreTold a h) → AreTold x (group_of_inode a ino)
