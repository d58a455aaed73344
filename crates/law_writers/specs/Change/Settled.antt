-- What each entry does to settled owners, and to what a scan has seen (Online Fsck Design, "Eventual Consistency", "Live
-- Updates").
use Rattle.std.specs.Prelude.{◌≡◌, ℕ, ◌<◌, ◌&&◌, not, true, false, List, [], ◌∷◌, ◌++◌, filter, Option, Some, None}
use Rattle.fs_model.specs.declared.entry.Entry.{Entry}
use Rattle.fs_model.specs.declared.entry.Entry.TheVariants as entries
use Rattle.geom.specs.Apart.{HasFitting}
use Rattle.rmap_recs.specs.Runs.{has}
use Rattle.rmap_recs.specs.declared.tuples.Tuple.{Tuple}
use Rattle.sblock.specs.declared.kind.Kind.{Kind}
use Rattle.sblock.specs.declared.kind.Kind.TheVariants.{Ino}
use Rattle.fs_state.specs.Apart.{is_inode}
use Rattle.fs_state.specs.State.{State, is_readable}
use Rattle.fs_state.specs.declared.intent.Intent.{Intent}
use Rattle.fs_state.specs.Own.{set_of}
use Rattle.fs_change.specs.Chains.{most_chains, given_by, taken_by, owed_gifts, owed_takings, settled_forks}
use Rattle.fs_change.specs.Laws.{fork_owners, changes_inode, is_seen}
use Rattle.fs_change.specs.Scan.{held_tuples, shadow_of}
use Rattle.fs_change.specs.Step.{Step, group_of_inode}
use Rattle.law_writers.specs.Change.Chunks.{LeavesChunks}

-- ---- entries that neither begin nor end a change of mappings

-- entries that aren't first events, nor finished steps of reverse mappings; one that makes a chunk too, where the inode
-- btree can be read: inodes of a new chunk have no mappings
abbrev pub LeavesOwners : State → Entry → Type 0
LeavesOwners a (entries.Mapped m) = ⊥
LeavesOwners a (entries.Unmapped m) = ⊥
LeavesOwners a (entries.Converted m) = ⊥
LeavesOwners a (entries.Shared m) = ⊥
LeavesOwners a (entries.RmapDone c ino g b n) = ⊥
LeavesOwners a (entries.Taken writer ino uid (Some block)) = is_readable ((a.group (group_of_inode a ino)).tree Ino).reading ≡ true
LeavesOwners a e = LeavesChunks a e

-- Such an entry leaves the settled owners of all forks, in every group.
abbrev pub OtherEntriesKeep : Type 0
OtherEntriesKeep = (a b : State) (left : List Kind) (e : Entry) (h : ℕ) → HasFitting a.geometry → Step a left e b → LeavesOwners a e → settled_forks b h ≡ settled_forks a h

-- ---- finished steps of reverse mappings

-- The chain's next intent speaks of a file: forks have what it gives, lack what it takes, and nothing else that is owed
-- gives or takes the same.
pub record IsOwedOnce (a b : State) (h : ℕ) (i : Intent) : Type 0 where
  pub there : (t : Tuple) → has (given_by h i) t ≡ true → has (fork_owners a h) t ≡ true
  pub given_once : (t : Tuple) → has (given_by h i) t ≡ true → has (owed_gifts b h) t ≡ false
  pub gone : (t : Tuple) → has (taken_by h i) t ≡ true → has (fork_owners a h) t ≡ false
  pub taken_once : (t : Tuple) → has (taken_by h i) t ≡ true → has (owed_takings b h) t ≡ false

abbrev pub IsNextOnce : State → State → ℕ → List Intent → Type 0
IsNextOnce a b h [] = ⊥
IsNextOnce a b h (i ∷ rest) = IsOwedOnce a b h i

abbrev pub given_next : ℕ → List Intent → List Tuple
given_next h [] = []
given_next h (i ∷ rest) = given_by h i

abbrev pub taken_next : ℕ → List Intent → List Tuple
taken_next h [] = []
taken_next h (i ∷ rest) = taken_by h i

-- A finished step changes settled owners by its intent's, and by no others.
abbrev pub FinishedStepMoves : Type 0
FinishedStepMoves = (a b : State) (left : List Kind) (c ino g block n h : ℕ) → HasFitting a.geometry → c < most_chains → Step a left (entries.RmapDone c ino g block n) b
    → LeavesChunks a (entries.RmapDone c ino g block n) → IsNextOnce a b h (a.chains c)
    → settled_forks b h ≡ set_of (filter (λ t. not (has (taken_next h (a.chains c)) t)) (settled_forks a h) ++ given_next h (a.chains c))

-- ---- what a scan has seen

-- no inode is held, or one that the entry doesn't change
abbrev pub IsHeldApart : State → Entry → Option ℕ → Type 0
IsHeldApart a e None = Unit {0}
IsHeldApart a e (Some ino) = (changes_inode a e ino ≡ false) × (is_inode a ino ≡ true)

-- an entry that is neither leaves what a scan has seen: also one that takes an inode, out of a new chunk too, or gives one
-- back
abbrev pub ShadowStays : Type 0
ShadowStays = (a b : State) (left : List Kind) (e : Entry) (h cursor k : ℕ) (held : Option ℕ) → HasFitting a.geometry → Step a left e b → LeavesOwners a e → IsHeldApart a e held
    → shadow_of b h cursor held k ≡ shadow_of a h cursor held k

-- so does each entry that leaves the settled owners, as first events do
abbrev pub ShadowBySettled : Type 0
ShadowBySettled = (a b : State) (left : List Kind) (e : Entry) (h cursor k : ℕ) (held : Option ℕ) → HasFitting a.geometry → Step a left e b → LeavesChunks a e → IsHeldApart a e held
    → settled_forks b h ≡ settled_forks a h → shadow_of b h cursor held k ≡ shadow_of a h cursor held k

-- a finished step gives a scan what it gives of visited inodes, and takes what it takes of these, and of no others
abbrev pub ShadowFollows : Type 0
ShadowFollows = (a b : State) (left : List Kind) (c ino g block n h cursor k : ℕ) (held : Option ℕ) → HasFitting a.geometry → c < most_chains → Step a left (entries.RmapDone c ino g block n) b
    → LeavesChunks a (entries.RmapDone c ino g block n) → IsNextOnce a b h (a.chains c) → IsHeldApart a (entries.RmapDone c ino g block n) held
    → ((t : Tuple) → has (taken_next h (a.chains c)) t ≡ true → has (held_tuples a h held k) t ≡ false)
    → shadow_of b h cursor held k ≡ set_of (filter (λ t. not (has (taken_next h (a.chains c)) t && is_seen cursor t)) (shadow_of a h cursor held k) ++ filter (is_seen cursor) (given_next h (a.chains c)))
