-- Why an index is marked: what an edit of it met, in an entry that stands in the journal or in one that wasn't made; or
-- what a choice met (Online Fsck Design, "Eventual Consistency").
use Rattle.std.specs.Prelude.{◌≡◌, ◌⊎◌, ℕ, ◌+◌, ◌-◌, ◌*◌, ◌/◌, ◌<◌, ◌≤◌, ◌==◌, ◌&&◌, ◌||◌, nat_le, nat_lt, Bool, true, false, not, List, [], ◌∷◌, ◌++◌, map, filter, length, take, sum_by, Some, None, if◌then◌else◌}
use Rattle.std.specs.List.{list_any, list_all}
use Rattle.fs_model.specs.declared.entry.Entry.{Entry}
use Rattle.fs_model.specs.declared.entry.Entry.TheVariants as entries
use Rattle.fs_model.specs.declared.entry.Extent.{Extent}
use Rattle.fs_model.specs.declared.fault.Cause.{Cause}
use Rattle.fs_model.specs.declared.fault.Cause.TheVariants as causes
use Rattle.fs_model.specs.declared.unit.Unit.{Unit as ScrubUnit}
use Rattle.fs_model.specs.declared.unit.Unit.TheVariants as units
use Rattle.rmap_recs.specs.Owners.{number_of}
use Rattle.rmap_recs.specs.declared.owner.Owner.TheVariants.{Ag, Inobt}
use Rattle.sblock.specs.declared.kind.Kind.{Kind}
use Rattle.sblock.specs.declared.kind.Kind.TheVariants.{Bno, Cnt, Rmap, Refc, Ino, Fino}
use Rattle.tree_defs.specs.Lists.{AllDiffer, is_in}
use Rattle.fs_state.specs.Apart.{unit_verifies}
use Rattle.fs_state.specs.Group.{is_among}
use Rattle.fs_state.specs.State.{State, Group, Owned, blocks_in, is_readable, pairs_of}
use Rattle.fs_state.specs.Derive.{is_free}
use Rattle.fs_state.specs.Records.{all_kinds, tree_owner}
use Rattle.fs_change.specs.Changes.{trimmed}
use Rattle.fs_change.specs.Choice.{chosen, free_inode, chunk_run, inode_of}
use Rattle.fs_change.specs.Edited.{group_of_inode, group_of_entry, is_asked, edited_in, met_by}
use Rattle.fs_change.specs.Loose.{tree_blocks, owners_in, lost_to, met_by_moves}
use Rattle.fs_change.specs.Met.{Met, and_then, met_moving}
use Rattle.fs_change.specs.Parts.{sick_in, records_in}
use Rattle.fs_change.specs.Step.{MayMap, MayGive, MayRefill, MayTrim, MayReserve, IsTaken, HasSame, filled_list, is_owned, to_trim}
use Rattle.fs_change.specs.Switch.{has_owned, need_of}

-- the edits of a tree put in so many records at most: two that are left of one that they cut, and a new one, and as many
-- for each block that gets another owner
abbrev pub most_put : ℕ → ℕ
most_put moved = 3 + 3 * moved

-- the blocks of a whole new tree of so many records more
abbrev pub whole_tree : Group → Kind → ℕ → ℕ
whole_tree p k more = need_of k (length (records_in p k) + more)

-- a tree grows by all blocks of a whole new one at most, but the root that it has: so many of the list may these trees take
abbrev pub most_taken : Group → List Kind → ℕ → ℕ
most_taken p ks most = sum_by (λ k. whole_tree p k most - 1) ks

-- and so many may they put onto it: all blocks that they had, but their roots
abbrev pub most_given : Group → List Kind → ℕ
most_given p ks = sum_by (λ k. length (tree_blocks p k) - 1) ks

-- how long is the list that an entry's edits find? A filled one has its run, and a reserved block has left it; of a long
-- one that is trimmed the last blocks are left.
abbrev pub listed_for : State → Entry → ℕ
listed_for a (entries.Refilled e) = length (a.group e.group).free_list + e.count
listed_for a (entries.Trimmed e) = filled_list
listed_for a (entries.Reserved g unit b false) = length (a.group g).free_list - 1
listed_for a e = length (a.group (group_of_entry a e)).free_list

-- a list is as an edit found it: the entry's edits took what it had more, and put onto it what it had less
abbrev pub MayHave : State → Entry → ℕ → ℕ → Type 0
MayHave a e most have =
    let p : Group = a.group (group_of_entry a e) in
    (listed_for a e ≤ have + most_taken p (edited_in a [] e) most) × (have ≤ listed_for a e + most_given p (edited_in a [] e))

-- The cause says what the entry's edits of the tree met, where they put at most so many records into each. A list that is
-- too short, or a batch that is too large, is met between these edits, where no state stands: these numbers are too small,
-- or too great. A tree has a root, so that it needs less than all blocks of a whole new one, and none where a leaf holds the
-- records. In a tree that can be read no block fails.
abbrev pub Explains : State → Entry → Kind → Met → ℕ → Cause → Type 0
Explains a e k m most causes.Missing = m.lacks ≡ true
Explains a e k m most causes.Overlap = (m.meets || m.far) ≡ true
Explains a e k m most (causes.Short have need) =
    (have < need) × (need < whole_tree (a.group (group_of_entry a e)) k most) × MayHave a e most have
Explains a e k m most (causes.Large n) = (160 < n) × (list_any (λ j. nat_lt 24 (length (tree_blocks (a.group (group_of_entry a e)) j))) all_kinds ≡ true)
Explains a e k m most (causes.Block block fault) = is_readable ((a.group (group_of_entry a e)).tree k).reading ≡ false
Explains a e k m most causes.Owner = ⊥

-- ---- marks behind an entry

-- why a mark is due: the tree was left, or an owner was found. A tree that no edit asked for isn't marked.
pub data Why : Type 0 where
  EditMet : (met : Met) → (most : ℕ) → Why
  NoEdit : Why
  FoundOwner : Why

-- a mark that has to stand next, its entry, and the state before that
pub record Due : Type 0 where
  pub before : State
  pub entry : Entry
  pub kind : Kind
  pub why : Why

abbrev pub IsReason : State → Entry → Kind → Why → Cause → Type 0
IsReason a e k (EditMet m most) cause = Explains a e k m most cause
IsReason a e k NoEdit cause = ⊥
IsReason a e k FoundOwner causes.Owner = Unit {0}
IsReason a e k FoundOwner cause = ⊥

abbrev pub IsDue : Due → Entry → Type 0
IsDue d (entries.Marked g k cause) = (g ≡ group_of_entry d.before d.entry) × (k ≡ d.kind) × IsReason d.before d.entry d.kind d.why cause
IsDue d e = ⊥

-- what the edits of a tree met in an entry from a that decided x and led to b: reverse mappings also follow moved blocks
abbrev pub met_in : State → State → State → Entry → Kind → Met
met_in a x b e Rmap = and_then (met_by a e Rmap) (met_by_moves (x.group (group_of_entry a e)) (b.group (group_of_entry a e)))
met_in a x b e k = met_by a e k

-- how many blocks got another owner
abbrev pub count_moved : State → State → ℕ → ℕ
count_moved x y g = length (lost_to (owners_in (x.group g)) (owners_in (y.group g)))

-- reverse mappings that only follow aren't edited where none did
abbrev pub why_left : State → State → State → Entry → Kind → Why
why_left a x y e Rmap =
    let moved : ℕ = count_moved x y (group_of_entry a e) in
    if is_asked e Rmap || nat_lt 0 moved then EditMet (met_in a x y e Rmap) (most_put moved) else NoEdit
why_left a x y e k = EditMet (met_in a x y e k) (most_put 0)

-- a run is kept because it has an owner: reference counts are wrong. And an owner of a run that was to be taken shows that
-- both indexes of free space are.
abbrev pub owners_due : State → Entry → List Due
owners_due a (entries.Freed c g b n true) = if sick_in (a.group g) Rmap then [] else record { before = a; entry = entries.Freed c g b n true; kind = Refc; why = FoundOwner } ∷ []
owners_due a (entries.Marked g Bno causes.Owner) = record { before = a; entry = entries.Marked g Bno causes.Owner; kind = Cnt; why = FoundOwner } ∷ []
owners_due a e = []

-- each of these once
abbrev pub once_each : List Kind → List Kind
once_each [] = []
once_each (k ∷ ks) = k ∷ filter (λ j. not (is_among j (k ∷ []))) (once_each ks)

abbrev pub dues : State → List Kind → Entry → State → State → List Due
dues a left e x b = map (λ k. record { before = a; entry = e; kind = k; why = why_left a x b e k }) (once_each left) ++ owners_due a e

-- ---- marks by themselves

-- a list of more blocks is trimmed; the mark stands before all its runs
abbrev pub longest_list : ℕ
longest_list = 64

-- the entry would be made, but for its edits
abbrev pub IsWanted : State → Entry → Type 0
IsWanted a (entries.Mapped m) = MayMap a m
IsWanted a (entries.Taken writer ino uid chunk) = (i : ℕ) × IsTaken a (group_of_inode a ino) i chunk × (ino ≡ inode_of a (group_of_inode a ino) i)
IsWanted a (entries.Given writer ino) = MayGive a ino
IsWanted a (entries.Refilled e) = MayRefill a e
IsWanted a (entries.Trimmed e) = (longest_list < length (a.group e.group).free_list) × MayTrim a e
IsWanted a (entries.Reserved g units.Free b true) = MayReserve a [] g units.Free b true
IsWanted a e = ⊥

-- runs that a trimming takes, one after the other, and the state after them
abbrev pub MayTrimEach : State → ℕ → List Extent → Type 0
MayTrimEach a g [] = Unit {0}
MayTrimEach a g (r ∷ rs) = (r.group ≡ g) × MayTrim a r × MayTrimEach (trimmed r a) g rs

abbrev pub trimmed_each : List Extent → State → State
trimmed_each [] a = a
trimmed_each (r ∷ rs) a = trimmed_each rs (trimmed r a)

-- so it would after these runs, where it trims
abbrev pub IsWantedBehind : State → List Extent → Entry → Type 0
IsWantedBehind a [] e = IsWanted a e
IsWantedBehind a (r ∷ rs) (entries.Trimmed e) = (longest_list < length (a.group e.group).free_list) × MayTrimEach a e.group (r ∷ rs) × MayTrim (trimmed_each (r ∷ rs) a) e
IsWantedBehind a (r ∷ rs) e = ⊥

-- a trimming whose batch would be too large is refused, and nothing is marked
abbrev pub is_refused : Entry → Cause → Bool
is_refused (entries.Trimmed e) (causes.Large n) = true
is_refused e cause = false

-- so many records its edits put into a tree at most; those of a trimming as many for each run, of one block at least
abbrev pub most_alone : State → Entry → ℕ
most_alone a (entries.Trimmed e) = 3 * length (to_trim (a.group e.group).free_list)
most_alone a e = most_put 0

-- its edit of this tree meets what the cause says; of a trimming after the runs that were trimmed before
pub record IsStopped (a : State) (g : ℕ) (k : Kind) (cause : Cause) : Type 0 where
  pub entry : Entry
  pub before : List Extent
  pub wanted : IsWantedBehind a before entry
  pub group : group_of_entry a entry ≡ g
  pub asked : is_asked entry k ≡ true
  pub marks : is_refused entry cause ≡ false
  pub edits : is_among k (edited_in a [] entry) ≡ true
  pub explains : Explains (trimmed_each before a) entry k (met_by (trimmed_each before a) entry k) (most_alone a entry) cause

-- blocks of the inode btrees have one owner, and those of the list and of the other trees that are edited with them another
abbrev pub may_turn : Owned → Bool
may_turn o = (o.owner == number_of Ag) || (o.owner == number_of Inobt)

-- those of these trees whose blocks have this owner
abbrev pub owned_kinds : ℕ → List Kind → List Kind
owned_kinds owner ks = filter (λ k. tree_owner k == owner) ks

-- trees of the list's owner that are edited before its blocks are counted: reverse mappings that only follow come behind
abbrev pub kinds_before : Entry → List Kind → List Kind
kinds_before e ks = filter (is_asked e) (owned_kinds (number_of Ag) ks)

-- the front of the list that edits may have taken: the blocks that would lose its owner, and among them as many as these
-- trees of that owner may take
abbrev pub taken_front : List Kind → Group → List Owned → List ℕ
taken_front before p old =
    let turned : ℕ = length (filter (λ o. (o.owner == number_of Ag) && is_in o.block p.free_list) old) in
    take (turned + most_taken p before (most_put 0)) p.free_list

-- a block of the list's front, or of a tree that is edited, has moved from there
abbrev pub may_move : List ℕ → List Kind → Group → Owned → Bool
may_move front ks p o = ((o.owner == number_of Ag) && is_in o.block front) || list_any (λ k. (o.owner == tree_owner k) && is_in o.block (tree_blocks p k)) ks

-- these blocks would lose these owners, and get those: each another one
abbrev pub do_turn : List Kind → List Kind → Group → List Owned → List Owned → Bool
do_turn before ks p old new =
    list_all (λ o. may_turn o && (may_move (taken_front before p old) ks p o && is_in o.block (blocks_in new))) old
    && list_all (λ o. may_turn o && (is_in o.block (blocks_in old) && not (has_owned old o))) new

-- how many of these blocks have this owner
abbrev pub count_owned : ℕ → List Owned → ℕ
count_owned owner os = length (filter (λ o. o.owner == owner) os)

-- no more of them turn than inode btrees take of the list, and put onto it
abbrev pub fits_trees : List Kind → Group → List Owned → Bool
fits_trees ks p old =
    let inos : List Kind = owned_kinds (number_of Inobt) ks in
    nat_le (count_owned (number_of Ag) old) (most_taken p inos (most_put 0)) && nat_le (count_owned (number_of Inobt) old) (most_given p inos)

-- or reverse mappings couldn't follow blocks that it would have moved, into an inode btree or out of one, in their order
pub record IsStuck (a : State) (g : ℕ) (cause : Cause) : Type 0 where
  pub entry : Entry
  pub wanted : IsWanted a entry
  pub group : group_of_entry a entry ≡ g
  pub edits : (is_among Rmap (edited_in a [] entry) && is_among Ino (edited_in a [] entry)) ≡ true
  pub old : List Owned
  pub new : List Owned
  pub some : 0 < length old
  pub turned : do_turn (kinds_before entry (edited_in a [] entry)) (edited_in a [] entry) (a.group g) old new ≡ true
  pub fits : fits_trees (edited_in a [] entry) (a.group g) old ≡ true
  pub once : AllDiffer (blocks_in old) × AllDiffer (blocks_in new)
  pub explains : Explains a entry Rmap (met_moving (pairs_of old) (pairs_of new) (records_in (a.group g) Rmap)) (most_put (length old)) cause

-- a spare block isn't reserved where its edits of free space and of reverse mappings both meet a fault
pub record IsUnnoted (a : State) (g : ℕ) (cause : Cause) : Type 0 where
  pub unit : ScrubUnit
  pub block : ℕ
  pub spare : MayReserve a [] g unit block true
  pub edits : (is_among Bno (edited_in a [] (entries.Reserved g unit block true)) && is_among Rmap (edited_in a [] (entries.Reserved g unit block true))) ≡ true
  pub other : (free : Cause) × Explains a (entries.Reserved g unit block true) Bno (met_by a (entries.Reserved g unit block true) Bno) (most_put 0) free
  pub explains : Explains a (entries.Reserved g unit block true) Rmap (met_by a (entries.Reserved g unit block true) Rmap) (most_put 0) cause

-- of a run that would be taken, for some wanted count, or for a chunk where no inode is free, reverse mappings know an owner
pub record IsOthers (a : State) (g : ℕ) : Type 0 where
  pub gates : ℕ → Bool
  pub run : Extent
  pub choice : ((count : ℕ) × (ino : ℕ) × (chosen a gates count ino ≡ Some run)) ⊎ ((free_inode a gates ≡ None) × (chunk_run a gates ≡ Some run))
  pub group : run.group ≡ g
  pub some : 0 < run.count
  pub owned : is_owned a run ≡ true

-- the inode that would be taken is allocated, or a core of its chunk doesn't verify
pub record IsNotFree (a : State) (g : ℕ) : Type 0 where
  pub gates : ℕ → Bool
  pub inode : ℕ
  pub chosen : free_inode a gates ≡ Some (g, inode)
  pub same : HasSame (records_in (a.group g) Ino) (records_in (a.group g) Fino)
  pub found : (unit_verifies a.geometry a.core g (inode / 64) && is_free (a.core (inode_of a g inode))) ≡ false

-- the inode btree hasn't the first record of free inodes
pub record LacksFirst (a : State) (g : ℕ) : Type 0 where
  pub gates : ℕ → Bool
  pub inode : ℕ
  pub chosen : free_inode a gates ≡ Some (g, inode)
  pub other : HasSame (records_in (a.group g) Ino) (records_in (a.group g) Fino) → ⊥

-- an event that makes no entry met it; a bad block is told of a tree that wasn't known to be bad
abbrev pub IsLone : State → ℕ → Kind → Cause → Type 0
IsLone a g Bno causes.Owner = IsOthers a g
IsLone a g Ino causes.Owner = IsNotFree a g
IsLone a g k causes.Owner = ⊥
IsLone a g k (causes.Block block fault) = (sick_in (a.group g) k ≡ false) × (is_readable ((a.group g).tree k).reading ≡ false)
IsLone a g Ino causes.Missing = LacksFirst a g ⊎ IsStopped a g Ino causes.Missing
IsLone a g Rmap cause = IsStopped a g Rmap cause ⊎ IsStuck a g cause ⊎ IsUnnoted a g cause
IsLone a g k cause = IsStopped a g k cause

abbrev pub MayStandAlone : State → Entry → Type 0
MayStandAlone a (entries.Marked g k cause) = IsLone a g k cause
MayStandAlone a e = Unit {0}
