-- What follows from the definitions alone.
use Rattle.std.specs.Prelude.{◌≡◌, ℕ, ◌+◌, ◌*◌, ◌<◌, ◌^◌, ◌==◌, ◌&&◌, ◌||◌, nat_le, nat_lt, not, false, true, Bool, List, [], ◌∷◌, ◌++◌, filter, flat_map, map, Option, Some, None}
use Rattle.std.specs.List.{list_any, list_all}
use Rattle.dinode_core.specs.declared.mapping.Fork.{Fork}
use Rattle.fs_model.specs.declared.entry.Entry.{Entry}
use Rattle.fs_model.specs.declared.entry.Entry.TheVariants as entries
use Rattle.fs_model.specs.declared.fault.Counter.{Counter}
use Rattle.fs_model.specs.declared.unit.Unit.{Unit as ScrubUnit}
use Rattle.fs_model.specs.declared.unit.Unit.TheVariants as units
use Rattle.rmap_recs.specs.Owners.{number_of}
use Rattle.rmap_recs.specs.declared.owner.Owner.TheVariants.{Inodes}
use Rattle.rmap_recs.specs.Runs.{has, AreTuples, HaveNext}
use Rattle.rmap_recs.specs.declared.tuples.Tuple.{Tuple}
use Rattle.sblock.specs.declared.kind.Kind.{Kind}
use Rattle.sblock.specs.declared.kind.Kind.TheVariants.{Rmap}
use Rattle.fs_state.specs.Apart.{is_inode, is_chunk}
use Rattle.fs_state.specs.Frame.{SameFork}
use Rattle.fs_state.specs.Group.{is_among}
use Rattle.fs_state.specs.State.{State, Group, blocks_in}
use Rattle.fs_state.specs.declared.intent.Intent.{Intent}
use Rattle.fs_state.specs.Claims.{fork_claims}
use Rattle.fs_state.specs.Derive.{derive}
use Rattle.fs_state.specs.Faults.{kind_of_fault}
use Rattle.fs_state.specs.Records.{kinds_of}
use Rattle.fs_state.specs.Laws.{EachTree}
use Rattle.fs_state.specs.Chunks.{chunks}
use Rattle.fs_state.specs.Own.{tuple_of, set_of, own}
use Rattle.fs_change.specs.Chains.{most_chains, owed_gifts, owed_takings, given_by, taken_by, settled_by, settled_forks}
use Rattle.fs_change.specs.Forget.{Forget, forgotten}
use Rattle.fs_change.specs.Parts.{at_only, stands_in, records_in}
use Rattle.fs_change.specs.Run.{Leads, RunAll}
use Rattle.fs_change.specs.Scan.{visited, held_tuples, next_claims, shadow_of}
use Rattle.fs_change.specs.Step.{Step, Row, may_leave, leaves_faults, edited_kinds, group_of_entry, group_of_inode}
use Rattle.fs_change.specs.Switch.{is_reserve_of, AreLaid, kind_need, prepared, moved, switched}

-- ---- what an entry decides is allowed: all blocks may stay where they are

-- the heads' counters are words
abbrev pub AreWords : Group → Type 0
AreWords p = (name : Counter) → p.counters name < 2 ^ 32

abbrev pub DecidedStands : Type 0
DecidedStands = (a x : State) (left : List Kind) (e : Entry) → Row a left e x → list_all (λ k. is_among k (may_leave a e)) left ≡ true → leaves_faults a left e ≡ true → AreWords (x.group (group_of_entry a e)) → Step a left e x

-- ---- journals one after the other

-- two runs of entries are one
abbrev pub LeadsCompose : Type 0
LeadsCompose = (a b c : State) (js ks : List Entry) → Leads a js b → Leads b ks c → Leads a (js ++ ks) c

-- sessions in front of others
abbrev pub SessionsCompose : Type 0
SessionsCompose = (a b c : State) (js ks : List (List Entry)) → RunAll a js b → RunAll b ks c → RunAll a (js ++ ks) c

-- there is always a state to begin with, and what was forgotten isn't missed a second time
abbrev pub SessionsBegin : Type 0
SessionsBegin = (a : State) → Forget a (forgotten a) × Forget (forgotten a) (forgotten a)

-- ---- a step changes only what its row says

-- the chain whose intents an entry changes
abbrev pub chain_of : Entry → Option ℕ
chain_of (entries.Mapped m) = Some m.chain
chain_of (entries.Unmapped m) = Some m.chain
chain_of (entries.Converted m) = Some m.chain
chain_of (entries.Shared m) = Some m.chain
chain_of (entries.RmapDone c ino g b n) = Some c
chain_of (entries.RefDone c g b n more) = Some c
chain_of (entries.Freed c g b n kept) = Some c
chain_of e = None

abbrev pub IsOther : Option ℕ → ℕ → Type 0
IsOther None c = Unit {0}
IsOther (Some d) c = (c == d) ≡ false

-- all other groups, and all other chains, are as they were
pub record StaysBeside (a : State) (e : Entry) (b : State) : Type 0 where
  pub geometry : b.geometry ≡ a.geometry
  pub groups : (g : ℕ) → (g == group_of_entry a e) ≡ false → b.group g ≡ a.group g
  pub chains : (c : ℕ) → IsOther (chain_of e) c → b.chains c ≡ a.chains c

abbrev pub ChangesOneGroup : Type 0
ChangesOneGroup = (a b : State) (left : List Kind) (e : Entry) → Step a left e b → StaysBeside a e b

-- the trees that an entry may change: those that it edits, with reverse mappings, which follow where blocks of trees get
-- another owner; and those of which it says what is known
abbrev pub with_owners : List Kind → List Kind
with_owners [] = []
with_owners (k ∷ ks) = Rmap ∷ k ∷ ks

abbrev pub changed_kinds : State → Entry → List Kind
changed_kinds a (entries.Marked g k cause) = k ∷ []
changed_kinds a (entries.Fault g unit fault) = kind_of_fault fault ∷ []
changed_kinds a (entries.Verdict g unit verdict) = kinds_of unit
changed_kinds a (entries.Switched g unit root second) = kinds_of unit
changed_kinds a e = with_owners (edited_kinds a e)

-- all other trees are as they were, blocks, records and trust
abbrev pub KeepsOtherTrees : Type 0
KeepsOtherTrees = (a b : State) (left : List Kind) (e : Entry) → Step a left e b → (k : Kind) → is_among k (changed_kinds a e) ≡ false
    → (b.group (group_of_entry a e)).tree k ≡ (a.group (group_of_entry a e)).tree k

-- the inodes whose core or fork an entry changes: its own, those of a new chunk, and what a reserved block held
abbrev pub changes_inode : State → Entry → ℕ → Bool
changes_inode a (entries.Mapped m) ino = ino == m.ino
changes_inode a (entries.Unmapped m) ino = ino == m.ino
changes_inode a (entries.Converted m) ino = ino == m.ino
changes_inode a (entries.Shared m) ino = (ino == m.from) || (ino == m.to)
changes_inode a (entries.Taken writer own uid None) ino = ino == own
changes_inode a (entries.Taken writer own uid (Some b)) ino = (ino == own) || stands_in a (group_of_inode a own) b 8 ino
changes_inode a (entries.Given writer own) ino = ino == own
changes_inode a (entries.Reserved g unit b spare) ino = stands_in a g b 1 ino
changes_inode a e ino = false

-- all other inodes in chunks are as they were; a fork that couldn't be read still can't
abbrev pub KeepsOtherInodes : Type 0
KeepsOtherInodes = (a b : State) (left : List Kind) (e : Entry) → Step a left e b → (ino : ℕ) → changes_inode a e ino ≡ false → is_inode b ino ≡ true
    → (b.core ino ≡ a.core ino) × ((f : Fork) → SameFork (a.fork ino f) (b.fork ino f))

-- taking a free inode of a chunk makes no chunk and ends none
abbrev pub TakenKeepsChunks : Type 0
TakenKeepsChunks = (a x : State) (left : List Kind) (writer ino uid : ℕ) → Row a left (entries.Taken writer ino uid None) x → (h u : ℕ) → is_chunk x h u ≡ is_chunk a h u

-- ---- a switch

-- the unit's trees hold what is derived from the state that the switch reaches
abbrev pub DerivedAgain : State → ℕ → ScrubUnit → (Kind → List ℕ) → Type 0
DerivedAgain a g unit blocks = EachTree (λ k. records_in ((switched a g unit blocks).group g) k ≡ derive (switched a g unit blocks) g k) (kinds_of unit)

-- so do those of free space and of reference counts, whatever these were before
abbrev pub SpaceDerivedAgain : Type 0
SpaceDerivedAgain = (a : State) (g : ℕ) (blocks : Kind → List ℕ) → DerivedAgain a g units.Free blocks × DerivedAgain a g units.Refc blocks

-- so do those of inodes: what is put in lists the chunks that there were
abbrev pub InodesDerivedAgain : Type 0
InodesDerivedAgain = (a : State) (g : ℕ) (blocks : Kind → List ℕ) → DerivedAgain a g units.Inode blocks

-- who has a block as inodes has it in a chunk
abbrev pub OnlyChunks : State → ℕ → Type 0
OnlyChunks a g = (t : Tuple) → has (own a g) t ≡ true → t.owner ≡ number_of Inodes → list_any (λ u. nat_le (8 * u) t.block && nat_lt t.block (8 * u + 8)) (chunks a g) ≡ true

-- so do reverse mappings, though chunks are read off them too: from the old records those are that list them, and the new
-- ones give the same units to inodes. No two owners of a block differ in the unwritten flag alone, and blocks are words.
abbrev pub MappingsDerivedAgain : Type 0
MappingsDerivedAgain = (a : State) (g : ℕ) (blocks : Kind → List ℕ) → AreTuples (own (moved a g units.Rmap blocks) g) → HaveNext (own (moved a g units.Rmap blocks) g)
    → OnlyChunks (moved a g units.Rmap blocks) g → DerivedAgain a g units.Rmap blocks

-- A block of a unit's reserve counts alike as reserve, as a new tree's and as limbo: the state by which the need is counted
-- has the derivations of the one that the switch reaches. So list and need don't go round in circles.
abbrev pub ReserveCountsAlike : Type 0
ReserveCountsAlike = (a : State) (g : ℕ) (unit : ScrubUnit) (blocks : Kind → List ℕ) → is_reserve_of unit (a.group g) ≡ true
    → AreLaid (kind_need a g unit) (kinds_of unit) (blocks_in (a.group g).reserve) blocks
    → EachTree (λ k. derive (moved a g unit blocks) g k ≡ derive (prepared a g unit) g k) (kinds_of unit)

-- ---- sets of owners

-- two lists with the same members are the same set
abbrev pub OneSet : Type 0
OneSet = (ts us : List Tuple) → ((t : Tuple) → has ts t ≡ has us t) → set_of ts ≡ set_of us

-- ---- a first event keeps the settled owners: what it does to forks is what its chain owes from then on. `more` and
-- `plus` are what is owed then, `us` what forks have then.

-- owners that forks gain, and that are still to be given
abbrev pub GiftPending : Type 0
GiftPending = (gifts more takings ts us new : List Tuple) → ((t : Tuple) → has us t ≡ (has ts t || has new t)) → ((t : Tuple) → has more t ≡ (has gifts t || has new t))
    → ((t : Tuple) → has new t ≡ true → has ts t ≡ false) → settled_by more takings us ≡ settled_by gifts takings ts

-- owners that forks lose, and that are still to be taken
abbrev pub TakingPending : Type 0
TakingPending = (gifts takings more ts us old : List Tuple) → ((t : Tuple) → has ts t ≡ (has us t || has old t)) → ((t : Tuple) → has more t ≡ (has takings t || has old t))
    → ((t : Tuple) → has old t ≡ true → has gifts t ≡ false) → settled_by gifts more us ≡ settled_by gifts takings ts

-- both at once: blocks that become written
abbrev pub ChangePending : Type 0
ChangePending = (gifts more takings plus ts us new old : List Tuple) → ((t : Tuple) → has us t ≡ ((has ts t && not (has old t)) || has new t))
    → ((t : Tuple) → has more t ≡ (has gifts t || has new t)) → ((t : Tuple) → has plus t ≡ (has takings t || has old t))
    → ((t : Tuple) → has new t ≡ true → has ts t ≡ false) → ((t : Tuple) → has old t ≡ true → has ts t ≡ true) → ((t : Tuple) → has old t ≡ true → has gifts t ≡ false)
    → settled_by more plus us ≡ settled_by gifts takings ts

-- ---- a finished step of reverse mappings changes them by its intent's owners, and by no others; `more` is what was owed
-- before it

abbrev pub GiftDone : Type 0
GiftDone = (gifts more takings ts new : List Tuple) → ((t : Tuple) → has more t ≡ (has gifts t || has new t)) → ((t : Tuple) → has new t ≡ true → has ts t ≡ true) → ((t : Tuple) → has new t ≡ true → has gifts t ≡ false)
    → settled_by gifts takings ts ≡ set_of (settled_by more takings ts ++ new)

abbrev pub TakingDone : Type 0
TakingDone = (gifts takings more ts old : List Tuple) → ((t : Tuple) → has more t ≡ (has takings t || has old t)) → ((t : Tuple) → has old t ≡ true → has ts t ≡ false) → ((t : Tuple) → has old t ≡ true → has takings t ≡ false)
    → settled_by gifts takings ts ≡ set_of (filter (λ t. not (has old t)) (settled_by gifts more ts))

-- ---- the same of states

abbrev pub fork_owners : State → ℕ → List Tuple
fork_owners a g = map tuple_of (fork_claims a g)

abbrev pub all_given : ℕ → List Intent → List Tuple
all_given g intents = flat_map (given_by g) intents

abbrev pub all_taken : ℕ → List Intent → List Tuple
all_taken g intents = flat_map (taken_by g) intents

-- A first event puts intents into a chain that owes nothing, and forks gain the owners that these will give, and lose
-- those that they will take: forks had none of the former and all of the latter, which nobody is still to be given.
pub record BeginsChange (a b : State) (g c : ℕ) (intents : List Intent) : Type 0 where
  pub below : c < most_chains
  pub nothing : a.chains c ≡ []
  pub chain : b.chains ≡ at_only c intents a.chains
  pub forks : (t : Tuple) → has (fork_owners b g) t ≡ ((has (fork_owners a g) t && not (has (all_taken g intents) t)) || has (all_given g intents) t)
  pub fresh : (t : Tuple) → has (all_given g intents) t ≡ true → has (fork_owners a g) t ≡ false
  pub there : (t : Tuple) → has (all_taken g intents) t ≡ true → has (fork_owners a g) t ≡ true
  pub apart : (t : Tuple) → has (all_taken g intents) t ≡ true → has (owed_gifts a g) t ≡ false

-- so the settled owners of all forks are as they were
abbrev pub FirstEventKeeps : Type 0
FirstEventKeeps = (a b : State) (g c : ℕ) (intents : List Intent) → BeginsChange a b g c intents → settled_forks b g ≡ settled_forks a g

-- A finished step takes the first intent off its chain, and leaves forks: they have what it gives and lack what it takes,
-- and no other intent gives or takes the same.
pub record EndsChange (a b : State) (g c : ℕ) (i : Intent) (rest : List Intent) : Type 0 where
  pub below : c < most_chains
  pub next : a.chains c ≡ i ∷ rest
  pub chain : b.chains ≡ at_only c rest a.chains
  pub forks : (t : Tuple) → has (fork_owners b g) t ≡ has (fork_owners a g) t
  pub there : (t : Tuple) → has (given_by g i) t ≡ true → has (fork_owners a g) t ≡ true
  pub given_once : (t : Tuple) → has (given_by g i) t ≡ true → has (owed_gifts b g) t ≡ false
  pub gone : (t : Tuple) → has (taken_by g i) t ≡ true → has (fork_owners a g) t ≡ false
  pub taken_once : (t : Tuple) → has (taken_by g i) t ≡ true → has (owed_takings b g) t ≡ false

-- so the settled owners lose what it takes and gain what it gives
abbrev pub StepMoves : Type 0
StepMoves = (a b : State) (g c : ℕ) (i : Intent) (rest : List Intent) → EndsChange a b g c i rest
    → settled_forks b g ≡ set_of (filter (λ t. not (has (taken_by g i) t)) (settled_forks a g) ++ given_by g i)

-- ---- what a scan has seen

-- a cursor that passes inodes without owners has seen nothing more
abbrev pub CursorPasses : Type 0
CursorPasses = (a : State) (g c d : ℕ) → ((t : Tuple) → has (settled_forks a g) t ≡ true → visited d t.owner ≡ visited c t.owner) → shadow_of a g d None 0 ≡ shadow_of a g c None 0

-- an inode of which nothing was given yet adds nothing
abbrev pub HoldBegins : Type 0
HoldBegins = (a : State) (g c ino : ℕ) → shadow_of a g c (Some ino) 0 ≡ shadow_of a g c None 0

-- a piece of n mappings more adds exactly their owners, and those of the btree's blocks among them
abbrev pub PieceGives : Type 0
PieceGives = (a : State) (g c ino k n : ℕ) → shadow_of a g c (Some ino) (k + n) ≡ set_of (shadow_of a g c (Some ino) k ++ map tuple_of (next_claims a g ino k n))

-- an inode that was given whole is visited
abbrev pub HoldEnds : Type 0
HoldEnds = (a : State) (g c k : ℕ) → ((t : Tuple) → has (held_tuples a g (Some (c + 1)) k) t ≡ (has (settled_forks a g) t && (t.owner == c + 1)))
    → shadow_of a g c (Some (c + 1)) k ≡ shadow_of a g (c + 1) None 0

-- owners that settled ones gain, or lose, are the shadow's where the scan has visited their inode, and only there
abbrev pub is_seen : ℕ → Tuple → Bool
is_seen c t = visited c t.owner

abbrev pub ShadowGains : Type 0
ShadowGains = (a b : State) (g c k : ℕ) (held : Option ℕ) (new : List Tuple) → settled_forks b g ≡ set_of (settled_forks a g ++ new) → held_tuples b g held k ≡ held_tuples a g held k
    → shadow_of b g c held k ≡ set_of (shadow_of a g c held k ++ filter (is_seen c) new)

abbrev pub ShadowLoses : Type 0
ShadowLoses = (a b : State) (g c k : ℕ) (held : Option ℕ) (old : List Tuple) → settled_forks b g ≡ set_of (filter (λ t. not (has old t)) (settled_forks a g)) → held_tuples b g held k ≡ held_tuples a g held k
    → ((t : Tuple) → has old t ≡ true → has (held_tuples a g held k) t ≡ false) → shadow_of b g c held k ≡ set_of (filter (λ t. not (has old t && is_seen c t)) (shadow_of a g c held k))
