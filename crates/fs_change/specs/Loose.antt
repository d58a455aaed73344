-- What an entry leaves open: how an edited tree is cut into blocks, and what a block that a tree had or gained, or that
-- left the reserve, holds as cores.
use Rattle.std.specs.Prelude.{◌≡◌, ℕ, ◌+◌, ◌/◌, ◌==◌, ◌&&◌, ◌||◌, nat_le, nat_lt, Bool, true, false, not, List, [], ◌∷◌, ◌++◌, map, flat_map, filter, length, take, drop, Option, Some, None, if◌then◌else◌}
use Rattle.std.specs.List.{list_any, list_all}
use Rattle.dinode_core.specs.declared.mapping.Fork.{Fork}
use Rattle.fs_model.specs.declared.fault.Counter.{Counter}
use Rattle.fs_model.specs.declared.fault.Counter.TheVariants.{Iblocks, Fblocks, RmapBlocks, Btreeblks, RefcountBlocks}
use Rattle.geom.specs.Layout.{split_of}
use Rattle.rmap_recs.specs.Owners.{number_of}
use Rattle.rmap_recs.specs.declared.owner.Owner.TheVariants.{Ag}
use Rattle.sblock.specs.declared.kind.Kind.{Kind}
use Rattle.sblock.specs.declared.kind.Kind.TheVariants.{Bno, Cnt, Rmap, Refc, Ino, Fino}
use Rattle.tree_defs.specs.Lists.{is_in, times}
use Rattle.fs_state.specs.Apart.{is_chunk, is_inode}
use Rattle.fs_state.specs.Frame.{SameFork}
use Rattle.fs_state.specs.State.{State, Group, Owned, blocks_of, blocks_in, pairs_of}
use Rattle.fs_state.specs.Records.{all_kinds, tree_owner}
use Rattle.fs_change.specs.Met.{Met, is_fault, take_each, give_each, met_moving}
use Rattle.fs_change.specs.Parts.{edit, in_trees, is_edited, records_in}
use Rattle.fs_change.specs.Changes.{follow}
use Rattle.fs_change.specs.Switch.{owned_by, has_owned}

-- ---- blocks of trees, list and limbo, with their owners

abbrev pub tree_blocks : Group → Kind → List ℕ
tree_blocks p k = blocks_of (p.tree k).reading

abbrev pub owners_in : Group → List Owned
owners_in p = map (owned_by (number_of Ag)) p.free_list ++ flat_map (λ k. map (owned_by (tree_owner k)) (tree_blocks p k)) all_kinds ++ p.limbo

-- which of the first the second hasn't
abbrev pub lost_to : List Owned → List Owned → List Owned
lost_to os ps = filter (λ o. not (has_owned ps o)) os

-- the pairs that the first group has and the second hasn't, by block: what comes and goes in between is none of them
abbrev pub lost_in : Group → Group → List Owned
lost_in p q = pairs_of (lost_to (owners_in p) (owners_in q))

-- where a moved block's owner differs, reverse mappings follow: from the highest block down all lose the old owner, and
-- then from the highest down all get the new one
abbrev pub owners_follow : List Kind → Group → Group → Group
owners_follow left p q = edit left Rmap (λ recs. give_each (lost_in q p) (take_each (lost_in p q) recs)) q

abbrev pub met_by_moves : Group → Group → Met
met_by_moves p q = met_moving (lost_in p q) (lost_in q p) (records_in p Rmap)

-- and so do the counters of blocks, those of inode btrees where heads keep them
abbrev pub block_counter : Bool → Group → Group → Counter → ℕ
block_counter kept p q Iblocks = if kept then follow (p.counters Iblocks) (length (tree_blocks p Ino)) (length (tree_blocks q Ino)) else p.counters Iblocks
block_counter kept p q Fblocks = if kept then follow (p.counters Fblocks) (length (tree_blocks p Fino)) (length (tree_blocks q Fino)) else p.counters Fblocks
block_counter kept p q RmapBlocks = follow (p.counters RmapBlocks) (length (tree_blocks p Rmap)) (length (tree_blocks q Rmap))
block_counter kept p q RefcountBlocks = follow (p.counters RefcountBlocks) (length (tree_blocks p Refc)) (length (tree_blocks q Refc))
block_counter kept p q Btreeblks = follow (p.counters Btreeblks) (length (tree_blocks p Bno) + length (tree_blocks p Cnt) + length (tree_blocks p Rmap)) (length (tree_blocks q Bno) + length (tree_blocks q Cnt) + length (tree_blocks q Rmap))
block_counter kept p q name = p.counters name

-- the group with its trees, list and limbo laid out so
abbrev pub laid_out : Bool → List Kind → List Kind → (Kind → List ℕ) → List ℕ → List Owned → Group → Group
laid_out kept left ks blocks list limbo p =
    let q = owners_follow left p (record (in_trees blocks ks p) { free_list = list; limbo = limbo }) in
    record q { counters = block_counter kept p q }

-- all blocks of trees, list and limbo
abbrev pub pool_of : Group → List ℕ
pool_of p = p.free_list ++ flat_map (tree_blocks p) all_kinds ++ blocks_in p.limbo

-- limbo had the pair; or an edited tree with this owner freed the block, which it had, or had taken from the list
abbrev pub may_join : List Kind → Group → Owned → Bool
may_join ks p o = has_owned p.limbo o || list_any (λ k. (o.owner == tree_owner k) && (is_in o.block (tree_blocks p k) || is_in o.block p.free_list)) ks

-- one list begins with the other
abbrev pub begins_with : List ℕ → List ℕ → Bool
begins_with [] new = true
begins_with (b ∷ list) [] = false
begins_with (b ∷ list) (c ∷ new) = (b == c) && begins_with list new

-- How many blocks did edits take from the front of a list? The fewest whose rest the new list begins with.
unfoldable pub count_used : List ℕ → List ℕ → ℕ
count_used [] new = 0
count_used (b ∷ list) new = if begins_with (b ∷ list) new then 0 else 1 + count_used list new

-- the free list has room for so many blocks
abbrev pub list_room : ℕ
list_room = 119

-- limbo gains a block only where the list had no room: with what edits freed behind its own blocks
abbrev pub is_limbo_due : Group → List ℕ → List Owned → Bool
is_limbo_due p freed limbo = list_all (has_owned p.limbo) limbo || nat_le list_room (length p.free_list + length freed)

-- Which blocks may an edit move? From the front of the list into edited trees, and from these to the list's end, or into
-- limbo, with the owner of their tree; none comes or goes. What both lists tell says how many left the front, and so
-- which were freed. Reverse mappings that can't follow are left.
pub record MovesBlocks (kept : Bool) (left ks : List Kind) (p q : Group) : Type 0 where
  pub blocks : Kind → List ℕ
  pub freed : List ℕ
  pub limbo : List Owned
  pub is : q ≡ laid_out kept left ks blocks (drop (count_used p.free_list q.free_list) p.free_list ++ freed) limbo p
  pub limbo_keeps : list_all (has_owned limbo) p.limbo ≡ true
  pub limbo_gains : list_all (may_join ks p) limbo ≡ true
  pub limbo_due : is_limbo_due p freed limbo ≡ true
  pub none_lost : (b : ℕ) → times b (pool_of q) ≡ times b (pool_of p)
  pub owners_met : (is_edited left p Rmap && is_fault (met_by_moves p q)) ≡ false

-- where no tree is edited nothing moves
abbrev pub Inside : Bool → List Kind → List Kind → Group → Group → Type 0
Inside kept left [] p q = q ≡ p
Inside kept left (k ∷ ks) p q = MovesBlocks kept left (k ∷ ks) p q

-- The blocks that edits took from the front of the list; where a block got another owner, and reverse mappings were edited
-- once more, any of the list: those may have been taken whole, and come back in their order.
abbrev pub used_blocks : Group → Group → List ℕ
used_blocks p q = if nat_lt 0 (length (lost_to (owners_in p) (owners_in q))) then p.free_list else take (count_used p.free_list q.free_list) p.free_list

-- ---- cores

abbrev pub place_in : ℕ → Option (ℕ × ℕ) → (ℕ → Bool) → Bool
place_in g None test = false
place_in g (Some p) test = (p.0 == g) && test p.1

-- a tree had the block or has it; or an edit had it from the list; or it left the reserve
abbrev pub is_touched : List ℕ → Group → Group → ℕ → Bool
is_touched used p q b = list_any (λ k. is_in b (tree_blocks p k) || is_in b (tree_blocks q k)) all_kinds || is_in b used || (is_in b (blocks_in p.reserve) && not (is_in b (blocks_in q.reserve)))

-- What stays of inodes? All of other blocks, which chunks there are, and all of inodes in chunks; a fork that can't be
-- read still can't.
pub record InodesStay (g : ℕ) (used : List ℕ) (a x b : State) : Type 0 where
  pub untouched : (ino : ℕ) → place_in g (split_of a.geometry (ino / 8)) (is_touched used (a.group g) (b.group g)) ≡ false → b.core ino ≡ x.core ino
  pub chunks : (h u : ℕ) → is_chunk b h u ≡ is_chunk x h u
  pub cores : (ino : ℕ) → is_inode x ino ≡ true → b.core ino ≡ x.core ino
  pub forks : (ino : ℕ) (f : Fork) → is_inode x ino ≡ true → SameFork (x.fork ino f) (b.fork ino f)

-- What is left open of an entry of the group that edits these trees, from state a, where it decides x? Only b's choice of
-- blocks, and cores that nobody reads.
pub record Loosely (g : ℕ) (left ks : List Kind) (a x b : State) : Type 0 where
  pub geometry : b.geometry ≡ x.geometry
  pub chains : b.chains ≡ x.chains
  pub others : (h : ℕ) → (h ≡ g → ⊥) → b.group h ≡ x.group h
  pub inside : Inside a.geometry.inobtcount left ks (x.group g) (b.group g)
  pub inodes : InodesStay g (used_blocks (x.group g) (b.group g)) a x b
