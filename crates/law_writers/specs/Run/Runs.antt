-- How many claims a block gains or loses where a run fills the free list, leaves it, or becomes a chunk: one entry and its row.
use Rattle.std.specs.Prelude.{ℕ, ◌≡◌, ◌==◌, true, List, Some, if◌then◌else◌}
use Rattle.law_accounts.specs.Account.Accounts.{hits}
use Rattle.law_writers.specs.Fork.Counted.{Gains, Loses}
use Rattle.fs_change.specs.Changes.{chunk_extent}
use Rattle.fs_change.specs.Laws.{AreWords}
use Rattle.fs_change.specs.Step.{Row, group_of_inode}
use Rattle.fs_model.specs.declared.entry.Entry.TheVariants as entries
use Rattle.fs_model.specs.declared.entry.Extent.{Extent}
use Rattle.fs_state.specs.State.{State, is_readable}
use Rattle.geom.specs.Apart.{HasFitting}
use Rattle.sblock.specs.declared.kind.Kind.{Kind}
use Rattle.sblock.specs.declared.kind.Kind.TheVariants.{Ino}
use Rattle.tree_defs.specs.Lists.{times}
use Rattle.law_writers.specs.Run.Found.{IsMade}

-- one that fills the list
abbrev pub RefilledClaims : Type 0
RefilledClaims = (a x : State) (left : List Kind) (e : Extent) (h b : ℕ) → HasFitting a.geometry → Row a left (entries.Refilled e) x → Gains a x h b (hits h b e) (hits h b e)

-- of a run that leaves the list each block stood there as often as it then claims less
abbrev pub TrimmedClaims : Type 0
TrimmedClaims = (a x : State) (left : List Kind) (e : Extent) (b n : ℕ) → HasFitting a.geometry → Row a left (entries.Trimmed e) x → n ≡ (if hits e.group b e == 1 then times b (a.group e.group).free_list else 0)
    → Loses a x e.group b n n

-- a new chunk is eight blocks of inodes; its inodes have no mappings
abbrev pub ChunkClaims : Type 0
ChunkClaims = (a x : State) (left : List Kind) (writer ino uid c b : ℕ) → HasFitting a.geometry → IsMade a x left (entries.Taken writer ino uid (Some c)) → AreWords (x.group (group_of_inode a ino))
    → is_readable ((a.group (group_of_inode a ino)).tree Ino).reading ≡ true → Gains a x (group_of_inode a ino) b (hits (group_of_inode a ino) b (chunk_extent (group_of_inode a ino) c)) (hits (group_of_inode a ino) b (chunk_extent (group_of_inode a ino) c))
