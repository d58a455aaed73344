-- What a switch makes: how many blocks it needs, which blocks it puts into limbo, and the state that it reaches (Online
-- Fsck Design, "Reserving New B+Tree Blocks", "Reaping After Repairing Ondisk Metadata").
use Rattle.std.specs.Prelude.{◌≡◌, ℕ, ◌+◌, ◌==◌, ◌&&◌, nat_le, nat_lt, Bool, true, false, not, List, [], ◌∷◌, ◌++◌, map, filter, flat_map, length, slice_get, reverse, take, drop, sum_by, count_by, unwrap_or, if◌then◌else◌}
use Rattle.std.specs.List.{list_any, list_all}
use Rattle.bulk_load.specs.Shapes.{width, start}
use Rattle.fs_model.specs.declared.fault.Counter.{Counter}
use Rattle.fs_model.specs.declared.fault.Counter.TheVariants.{Count, Freecount, Iblocks, Fblocks, RmapBlocks, Freeblks, Longest, Btreeblks, RefcountBlocks}
use Rattle.fs_model.specs.declared.unit.Trust.TheVariants.{Good}
use Rattle.fs_model.specs.declared.unit.Unit.{Unit as ScrubUnit}
use Rattle.fs_model.specs.declared.unit.Unit.TheVariants as units
use Rattle.geom.specs.Layout.{group_len_of}
use Rattle.rmap_recs.specs.Owners.{number_of}
use Rattle.rmap_recs.specs.declared.owner.Owner.TheVariants.{Ag, Inobt, Refc as OfRefc}
use Rattle.rmap_recs.specs.declared.records.RmapRec.{RmapRec}
use Rattle.sblock.specs.declared.kind.Kind.{Kind}
use Rattle.sblock.specs.declared.kind.Kind.TheVariants.{Bno, Rmap}
use Rattle.fs_state.specs.Apart.{is_free}
use Rattle.fs_state.specs.Kinds.{RecOf}
use Rattle.fs_state.specs.State.{State, Group, Owned, Reading, Readable, Unreadable, blocks_of, is_readable, pairs_of}
use Rattle.fs_state.specs.Claims.{claims}
use Rattle.fs_state.specs.Derive.{derive}
use Rattle.fs_state.specs.Faults.{wanted}
use Rattle.fs_state.specs.Records.{kinds_of}
use Rattle.fs_state.specs.Lists.{numbers}
use Rattle.tree_defs.specs.Lists.{times}
use Rattle.fs_change.specs.Parts.{in_group, change_tree, set_blocks, in_trees, records_in}

-- the owner of a unit's new blocks, and of those that its switch puts into limbo
abbrev pub unit_owner : ScrubUnit → ℕ
unit_owner units.Inode = number_of Inobt
unit_owner units.Rmap = number_of Ag
unit_owner units.Free = number_of Ag
unit_owner units.Refc = number_of OfRefc

abbrev pub owned_by : ℕ → ℕ → Owned
owned_by owner b = record { block = b; owner = owner }

-- ---- limbo is a set of blocks with their owners: the one list of them that rises

abbrev pub is_same_owned : Owned → Owned → Bool
is_same_owned o p = (o.block == p.block) && (o.owner == p.owner)

abbrev pub has_owned : List Owned → Owned → Bool
has_owned os o = list_any (is_same_owned o) os

-- What is limbo after these blocks joined it?
abbrev pub join_limbo : List Owned → List Owned → List Owned
join_limbo more limbo = pairs_of (more ++ limbo)

-- ---- need

-- How many blocks does a new tree of n records have? Those of all levels up to the first of one block.
unfoldable pub need_of : Kind → ℕ → ℕ
need_of k n = start k n (1 + count_by (λ j. nat_lt 1 (width k n j)) (numbers 0 8))

-- ---- the old trees are no claims any more

abbrev pub empty_trees : List Kind → Group → Group
empty_trees [] p = p
empty_trees (k ∷ ks) p = set_blocks k [] (empty_trees ks p)

unfoldable pub without_trees : State → ℕ → ScrubUnit → State
without_trees a g unit = in_group g (empty_trees (kinds_of unit)) a

abbrev pub readable_blocks : {R : Type 0} → Reading R → List ℕ
readable_blocks (Readable recs blocks) = blocks
readable_blocks (Unreadable block fault claims) = []

abbrev pub gives_to : ℕ → List RmapRec → ℕ → Bool
gives_to owner recs b = list_any (λ r. (r.owner == owner) && (nat_le r.start b && nat_lt b (r.start + r.count))) recs

-- the blocks of the group that pass the test and that nothing claims, the unit's old trees aside
abbrev pub unclaimed : State → ℕ → ScrubUnit → (ℕ → Bool) → List ℕ
unclaimed a g unit test =
    let cs = claims (without_trees a g unit) g in
    filter (λ b. test b && not (list_any (λ c. c.block == b) cs)) (numbers 0 (group_len_of a.geometry g))

-- Which blocks are lost, once a unit's trees are new? For the inode btrees the old ones that could be read; for reverse
-- mappings what neither a claim nor free space has; for the others what reverse mappings give to the unit's owner and
-- nothing claims.
unfoldable pub lost_blocks : State → ℕ → ScrubUnit → List ℕ
lost_blocks a g units.Inode = flat_map (λ k. readable_blocks ((a.group g).tree k).reading) (kinds_of units.Inode)
lost_blocks a g units.Rmap = if is_readable ((a.group g).tree Bno).reading then unclaimed a g units.Rmap (λ b. not (is_free (records_in (a.group g) Bno) b)) else []
lost_blocks a g units.Free = unclaimed a g units.Free (gives_to (unit_owner units.Free) (records_in (a.group g) Rmap))
lost_blocks a g units.Refc = unclaimed a g units.Refc (gives_to (unit_owner units.Refc) (records_in (a.group g) Rmap))

abbrev pub lost_owned : State → ℕ → ScrubUnit → List Owned
lost_owned a g unit = map (owned_by (unit_owner unit)) (lost_blocks a g unit)

-- From which state are the new records derived? The old trees claim nothing, the lost blocks are in limbo, and the
-- reserve is as it is: its blocks count alike as a tree's, as limbo and as reserve. Old records stand until then.
unfoldable pub prepared : State → ℕ → ScrubUnit → State
prepared a g unit = in_group g (λ p. record p { limbo = join_limbo (lost_owned a g unit) p.limbo }) (without_trees a g unit)

abbrev pub kind_need : State → ℕ → ScrubUnit → Kind → ℕ
kind_need a g unit k = need_of k (length (derive (prepared a g unit) g k))

-- How many blocks must a unit's reserve have? As many as its new trees.
unfoldable pub need : State → ℕ → ScrubUnit → ℕ
need a g unit = sum_by (kind_need a g unit) (kinds_of unit)

-- ---- the state that a switch reaches

-- the reserve has blocks of this unit alone
abbrev pub is_reserve_of : ScrubUnit → Group → Bool
is_reserve_of unit p = list_all (λ o. o.owner == unit_owner unit) p.reserve

-- these blocks in the order of a walk: its root first, which was claimed last
pub record AreOf (claimed blocks : List ℕ) : Type 0 where
  pub same : (b : ℕ) → times b blocks ≡ times b claimed
  pub root : slice_get blocks 0 ≡ slice_get (reverse claimed) 0

-- the trees have the first of these blocks, one tree after the other, as many as each needs
abbrev pub AreLaid : (Kind → ℕ) → List Kind → List ℕ → (Kind → List ℕ) → Type 0
AreLaid needs [] claimed blocks = Unit {0}
AreLaid needs (k ∷ ks) claimed blocks = AreOf (take (needs k) claimed) (blocks k) × AreLaid needs ks (drop (needs k) claimed) blocks

-- What does a switch put into limbo? The lost blocks, and what the reserve has too many.
unfoldable pub limbo_of : State → ℕ → ScrubUnit → List Owned
limbo_of a g unit = join_limbo (lost_owned a g unit) (drop (need a g unit) (a.group g).reserve)

-- the first blocks of the reserve are the trees', with the old records; the rest is limbo
abbrev pub move_blocks : State → ℕ → ScrubUnit → (Kind → List ℕ) → Group → Group
move_blocks a g unit blocks p =
    record (in_trees blocks (kinds_of unit) p) { reserve = []; limbo = join_limbo (limbo_of a g unit) (a.group g).limbo }

unfoldable pub moved : State → ℕ → ScrubUnit → (Kind → List ℕ) → State
moved a g unit blocks = in_group g (move_blocks a g unit blocks) a

-- the trees hold these records, and are good
abbrev pub hold : ((k : Kind) → List (RecOf k)) → List Kind → Group → Group
hold recs [] p = p
hold recs (k ∷ ks) p = change_tree k (λ i. record { reading = Readable (recs k) (blocks_of i.reading); trust = Good }) (hold recs ks p)

abbrev pub derived_in : State → ℕ → ScrubUnit → State
derived_in m g unit = in_group g (hold (derive m g) (kinds_of unit)) m

-- the counters of a unit; the switch of reverse mappings sets that of the blocks of both free space trees too
abbrev pub sets_counter : ScrubUnit → Counter → Bool
sets_counter units.Inode Count = true
sets_counter units.Inode Freecount = true
sets_counter units.Inode Iblocks = true
sets_counter units.Inode Fblocks = true
sets_counter units.Rmap RmapBlocks = true
sets_counter units.Rmap Btreeblks = true
sets_counter units.Free Freeblks = true
sets_counter units.Free Longest = true
sets_counter units.Free Btreeblks = true
sets_counter units.Refc RefcountBlocks = true
sets_counter unit name = false

-- these are exact, where they can be told
abbrev pub exact_counters : State → ℕ → ScrubUnit → Counter → ℕ
exact_counters a g unit name = if sets_counter unit name then unwrap_or (wanted a g name) ((a.group g).counters name) else (a.group g).counters name

abbrev pub with_counters : State → ℕ → ScrubUnit → State
with_counters a g unit = in_group g (λ p. record p { counters = exact_counters a g unit }) a

-- Which state does a switch reach that puts the new trees into these blocks? The blocks move, then the unit's records are
-- what is derived from the state so reached, and its counters follow.
unfoldable pub switched : State → ℕ → ScrubUnit → (Kind → List ℕ) → State
switched a g unit blocks = with_counters (derived_in (moved a g unit blocks) g unit) g unit
