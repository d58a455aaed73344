-- What holds of each claim of a group: it lies in the group, and what stands in its offset word.
use Rattle.std.proofs.Common.{◌≡◌, ℕ, zero, suc, ◌+◌, ◌*◌, ◌<◌, ◌≤◌, ◌==◌, Bool, true, false, not, List, [], ◌∷◌, ◌++◌, map, flat_map, Option, Some, None, refl, subst, inl, inr, arith}
use Rattle.std.specs.Prelude.{◌⊎◌, ◌/◌, if◌then◌else◌}
use Rattle.std.specs.Option.{ForSome}
use Rattle.std.proofs.lemmas.Bool.{eqb-true, leb-true, not-true}
use Rattle.law_writers.proofs.Change.Members.{split_parts}
use Rattle.dinode_core.specs.ForkTree.{TreeBlock}
use Rattle.dinode_core.specs.Inline.{ends_in_group}
use Rattle.dinode_core.specs.declared.mapping.Fork.{Fork}
use Rattle.dinode_core.specs.declared.mapping.Fork.TheVariants as forks
use Rattle.dinode_core.specs.declared.mapping.Mapping.{Mapping}
use Rattle.fs_state.specs.Chunks.{chunks, inodes}
use Rattle.fs_state.specs.Claims.{Claimed, attribute, attribute_claims, blocks_at, claimed_by, claims, data_claims, fork_claims, fork_of, fork_tree, fork_tree_claims, log_claims, mapped_blocks, mapping_claims, metadata_claims, tree_block_at, tree_claims, word_of}
use Rattle.fs_state.specs.Records.{all_kinds, tree_owner}
use Rattle.fs_state.specs.Lists.{numbers, only_if}
use Rattle.fs_model.specs.declared.claim.Claim.{Claim}
use Rattle.fs_model.specs.declared.claim.Claim.TheVariants.{Attr, Chunk, Data, ForkTree, Heads, Limbo, List as FreeList, Log, Reserve, Tree}
use Rattle.fs_state.specs.Apart.{is_chunk}
use Rattle.fs_state.specs.State.{Group, Owned, State, blocks_in, blocks_of}
use Rattle.geom.specs.Apart.{HasFitting}
use Rattle.geom.specs.Layout.{Layout, group_len_of, split_of}
use Rattle.geom.specs.Numbers.{HoldsLog}
use Rattle.geom.specs.declared.geometry.Run3.{Run3}
use Rattle.law_repairs.proofs.Letter.Plain.{inode_number}
use Rattle.law_repairs.proofs.Repair.Same.{in_numbers, passes}
use Rattle.rmap_recs.specs.Owners.{is_inode, number_of}
use Rattle.rmap_recs.specs.declared.owner.Owner.TheVariants.{Ag, Fs, Inodes, Log as OfLog}
use Rattle.sblock.specs.declared.kind.Kind.{Kind}
use Rattle.sblock.specs.declared.kind.Kind.TheVariants.{Bno, Cnt, Rmap, Refc, Ino, Fino}
use Rattle.tree_defs.proofs.SiteLemmas.{has_first}
use Rattle.tree_defs.specs.Lists.{In}
use Rattle.unit_plan.specs.Group.{AreGoodForks}
use Rattle.law_repairs.specs.Order.Kept.{AreNoInodes, LieBelow, LogLiesInside}
use Rattle.law_repairs.proofs.Order.Lists.{Every, every_both, every_flat, every_in, every_map, every_of, every_weaker, test_every}
use Rattle.law_repairs.proofs.Order.Offsets.{Among, Good, IsMapped, IsOfTree, IsTold, flag_of, fork_good}

-- ---- of all claims, part by part

module _ (a : State) (g : ℕ) (P : Claimed → Type 0) where
  pub metadata_every : P (claimed_by Heads (number_of Fs) 0) → Every P (log_claims a.geometry.log g) → Every (λ (b : ℕ). P (claimed_by FreeList (number_of Ag) b)) (a.group g).free_list
      → ((k : Kind) → Every (λ (b : ℕ). P (claimed_by (Tree k) (tree_owner k) b)) (blocks_of ((a.group g).tree k).reading)) → Every (λ (o : Owned). P (claimed_by Reserve o.owner o.block)) (a.group g).reserve
      → Every (λ (o : Owned). P (claimed_by Limbo o.owner o.block)) (a.group g).limbo → Every (λ (u : ℕ). Every (λ (b : ℕ). P (claimed_by Chunk (number_of Inodes) b)) (numbers (8 * u) 8)) (chunks a g) → Every P (metadata_claims a g)
  unfolding metadata_claims
  metadata_every heads log list trees reserve limbo units =
      let p : Group = a.group g in
      let front : List Claimed = claimed_by Heads (number_of Fs) 0 ∷ log_claims a.geometry.log g in
      let listed : List Claimed = map (claimed_by FreeList (number_of Ag)) p.free_list in
      let tree : Kind → List Claimed = λ (k : Kind). map (claimed_by (Tree k) (tree_owner k)) (blocks_of (p.tree k).reading) in
      let reserved : List Claimed = map (λ (o : Owned). claimed_by Reserve o.owner o.block) p.reserve in
      let waiting : List Claimed = map (λ (o : Owned). claimed_by Limbo o.owner o.block) p.limbo in
      let unit : ℕ → List Claimed = λ (u : ℕ). map (claimed_by Chunk (number_of Inodes)) (numbers (8 * u) 8) in
      every_both P (front ++ listed ++ flat_map tree all_kinds ++ reserved ++ waiting) (flat_map unit (chunks a g))
      (every_both P (front ++ listed ++ flat_map tree all_kinds ++ reserved) waiting
      (every_both P (front ++ listed ++ flat_map tree all_kinds) reserved
      (every_both P (front ++ listed) (flat_map tree all_kinds)
      (every_both P front listed (heads, log) (every_map P (claimed_by FreeList (number_of Ag)) p.free_list list))
      (every_flat P tree all_kinds (every_of (λ (k : Kind). Every P (tree k)) (λ k. every_map P (claimed_by (Tree k) (tree_owner k)) (blocks_of (p.tree k).reading) (trees k)) all_kinds)))
      (every_map P (λ (o : Owned). claimed_by Reserve o.owner o.block) p.reserve reserve))
      (every_map P (λ (o : Owned). claimed_by Limbo o.owner o.block) p.limbo limbo))
      (every_flat P unit (chunks a g) (every_weaker (λ (u : ℕ). Every (λ (b : ℕ). P (claimed_by Chunk (number_of Inodes) b)) (numbers (8 * u) 8)) (λ (u : ℕ). Every P (unit u)) (λ u h. every_map P (claimed_by Chunk (number_of Inodes)) (numbers (8 * u) 8) h) (chunks a g) units))

  pub forks_every : ((ino : ℕ) → In ino (inodes a) → Every P (data_claims a g ino)) → ((ino : ℕ) → In ino (inodes a) → Every P (attribute_claims a g ino)) → ((ino : ℕ) → In ino (inodes a) → Every P (tree_claims a g ino)) → Every P (fork_claims a g)
  unfolding fork_claims
  forks_every mapped attr tree =
      every_both P (flat_map (data_claims a g) (inodes a) ++ flat_map (attribute_claims a g) (inodes a)) (flat_map (tree_claims a g) (inodes a))
      (every_both P (flat_map (data_claims a g) (inodes a)) (flat_map (attribute_claims a g) (inodes a))
      (every_flat P (data_claims a g) (inodes a) (every_in (λ (ino : ℕ). Every P (data_claims a g ino)) (inodes a) mapped))
      (every_flat P (attribute_claims a g) (inodes a) (every_in (λ (ino : ℕ). Every P (attribute_claims a g ino)) (inodes a) attr)))
      (every_flat P (tree_claims a g) (inodes a) (every_in (λ (ino : ℕ). Every P (tree_claims a g ino)) (inodes a) tree))

  pub claims_every : Every P (metadata_claims a g) → Every P (fork_claims a g) → Every P (claims a g)
  unfolding claims
  claims_every own forks = every_both P (metadata_claims a g) (fork_claims a g) own forks

every_if : {X : Type 0} (P : X → Type 0) (b : Bool) (xs : List X) → (b ≡ true → Every P xs) → Every P (if b then xs else [])
every_if P true xs h = h refl
every_if P false xs h = tt

-- ---- forks

-- a block inside the group, of an inode's fork
abbrev pub IsRight : State → ℕ → Claimed → Type 0
IsRight a g c = (c.block < group_len_of a.geometry g) × (IsMapped a c.owner c.word ⊎ IsOfTree c.owner c.word)

module _ (a : State) (g ino : ℕ) (file : is_inode ino ≡ true) (f : Fork) where
  mapped_right : (c : Claim) (m : Mapping) → Among m (fork_of a ino f).mappings → (n i b w : ℕ) → b + n ≤ group_len_of a.geometry g → i + n ≤ m.count → w ≡ word_of (flag_of f) m + i → Every (IsRight a g) (mapped_blocks c ino b w n)
  mapped_right c m there zero i b w low few e = tt
  mapped_right c m there (suc n) i b w low few e = (
    (omega (arith, low), inl (record { file = file; fork = f; mapping = m; there = there; nth = i; one_of = omega (arith, few); word_is = e })),
    mapped_right c m there n (i + 1) (b + 1) (w + 1) (omega (arith, low)) (omega (arith, few)) (omega (arith, e)),
  )

  placed_right : (c : Claim) (m : Mapping) → Among m (fork_of a ino f).mappings → (o : Option (ℕ × ℕ)) → ends_in_group a.geometry o m.count ≡ true → Every (IsRight a g) (blocks_at g c ino (flag_of f) m o)
  placed_right c m there None h = tt
  placed_right c m there (Some p) h = every_if (IsRight a g) (p.0 == g) (mapped_blocks c ino p.1 (word_of (flag_of f) m) m.count) (λ is.
      let ends : p.1 + m.count ≤ group_len_of a.geometry g = subst (λ (x : ℕ). p.1 + m.count ≤ group_len_of a.geometry x) (eqb-true p.0 g is) (leb-true (p.1 + m.count) (group_len_of a.geometry p.0) h) in
      mapped_right c m there m.count 0 p.1 (word_of (flag_of f) m) ends (omega arith) (omega arith))

  mappings_right : (c : Claim) (ms : List Mapping) → Good a.geometry ms → ((m : Mapping) → Among m ms → Among m (fork_of a ino f).mappings) → Every (IsRight a g) (mapping_claims a.geometry g c ino (flag_of f) ms)
  mappings_right c [] good up = tt
  mappings_right c (m ∷ ms) good up =
      every_both (IsRight a g) (blocks_at g c ino (flag_of f) m (split_of a.geometry m.block)) (mapping_claims a.geometry g c ino (flag_of f) ms)
      (placed_right c m (up m (inl refl)) (split_of a.geometry m.block) good.1.inside) (mappings_right c ms good.2 (λ n i. up n (inr i)))

  tree_right : (n : ℕ) (o : Option (ℕ × ℕ)) → split_of a.geometry n ≡ o → Every (IsRight a g) (tree_block_at g ino (flag_of f) o)
  tree_right n None e = tt
  tree_right n (Some p) e = one_if (p.0 == g) refl where
    one_if : (b : Bool) → (p.0 == g) ≡ b → Every (IsRight a g) (only_if b (record { block = p.1; claim = ForkTree ino; owner = ino; word = fork_tree + flag_of f }))
    one_if true is = ((subst (λ (x : ℕ). p.1 < group_len_of a.geometry x) (eqb-true p.0 g is) (split_parts a.geometry n p.0 p.1 e).block, inr (record { file = file; fork = f; word_is = refl })), tt)
    one_if false is = tt

  trees_right : (bs : List TreeBlock) → Every (IsRight a g) (fork_tree_claims a.geometry g ino (flag_of f) bs)
  trees_right bs = every_flat (IsRight a g) (λ (b : TreeBlock). tree_block_at g ino (flag_of f) (split_of a.geometry b.block)) bs (every_of (λ (b : TreeBlock). Every (IsRight a g) (tree_block_at g ino (flag_of f) (split_of a.geometry b.block))) (λ b. tree_right b.block (split_of a.geometry b.block) refl) bs)

pub forks_right : (a : State) (g : ℕ) → HasFitting a.geometry → AreGoodForks a → Every (IsRight a g) (fork_claims a g)
forks_right a g fit good =
    forks_every a g (IsRight a g)
    (λ ino i. mappings_right a g ino (inode_number a fit ino i) forks.Data (Data ino) (fork_of a ino forks.Data).mappings (fork_good a good ino forks.Data) (λ m j. j))
    (λ ino i. mappings_right a g ino (inode_number a fit ino i) forks.Attr (Attr ino) (fork_of a ino forks.Attr).mappings (fork_good a good ino forks.Attr) (λ m j. j))
    (λ ino i. every_both (IsRight a g) (fork_tree_claims a.geometry g ino 0 (fork_of a ino forks.Data).blocks) (fork_tree_claims a.geometry g ino attribute (fork_of a ino forks.Attr).blocks)
    (trees_right a g ino (inode_number a fit ino i) forks.Data (fork_of a ino forks.Data).blocks) (trees_right a g ino (inode_number a fit ino i) forks.Attr (fork_of a ino forks.Attr).blocks))

-- ---- the group's own metadata lies in it

pub owned_below : (len : ℕ) (os : List Owned) → LieBelow len (blocks_in os) → Every (λ (o : Owned). o.block < len) os
owned_below len [] low = tt
owned_below len (o ∷ os) low = (low o.block (inl refl), owned_below len os (λ p i. low p (inr i)))

log_below : (at : Layout) (log : Option Run3) (g : ℕ) → ForSome log (λ run. HoldsLog at.agblocks at.agcount at.dblocks run) → Every (λ (c : Claimed). c.block < group_len_of at g) (log_claims log g)
log_below at None g holds = tt
log_below at (Some run) g holds = every_if (λ (c : Claimed). c.block < group_len_of at g) (run.group == g) (map (claimed_by Log (number_of OfLog)) (numbers run.start run.count)) (λ is.
    let ends : run.start + run.count ≤ group_len_of at g = subst (λ (x : ℕ). run.start + run.count ≤ group_len_of at x) (eqb-true run.group g is) (holds run refl).inside in
    every_map (λ (c : Claimed). c.block < group_len_of at g) (claimed_by Log (number_of OfLog)) (numbers run.start run.count) (every_in (λ (b : ℕ). b < group_len_of at g) (numbers run.start run.count) (λ b i.
    let lt = in_numbers run.start run.count b i in
    omega (arith, lt, ends))))

units_below : (a : State) (g : ℕ) → Every (λ (u : ℕ). Every (λ (b : ℕ). b < group_len_of a.geometry g) (numbers (8 * u) 8)) (chunks a g)
unfolding chunks
units_below a g = every_in (λ (u : ℕ). Every (λ (b : ℕ). b < group_len_of a.geometry g) (numbers (8 * u) 8)) (chunks a g) (λ u i.
    let unit = in_numbers 0 (group_len_of a.geometry g / 8) u (passes (is_chunk a g) (numbers 0 (group_len_of a.geometry g / 8)) u i).1 in
    every_in (λ (b : ℕ). b < group_len_of a.geometry g) (numbers (8 * u) 8) (λ b j. let lt = in_numbers (8 * u) 8 b j in omega (arith, unit, lt)))

-- what must be known of a group's own lists
pub record AreInside (len : ℕ) (p : Group) : Type 0 where
  pub list : LieBelow len p.free_list
  pub trees : (k : Kind) → LieBelow len (blocks_of (p.tree k).reading)
  pub reserve : LieBelow len (blocks_in p.reserve)
  pub limbo : LieBelow len (blocks_in p.limbo)

pub each_below : (a : State) (g : ℕ) → HasFitting a.geometry → LogLiesInside a.geometry → g < a.geometry.agcount → AreGoodForks a → AreInside (group_len_of a.geometry g) (a.group g) → Every (λ (c : Claimed). c.block < group_len_of a.geometry g) (claims a g)
each_below a g fit log lt good own =
    let len = group_len_of a.geometry g in
    claims_every a g (λ (c : Claimed). c.block < len)
    (metadata_every a g (λ (c : Claimed). c.block < len)
    (has_first a.geometry.agblocks a.geometry.agcount a.geometry.dblocks g lt fit.long_groups fit.last_long)
    (log_below a.geometry a.geometry.log g log)
    (every_in (λ (b : ℕ). b < len) (a.group g).free_list own.list)
    (λ k. every_in (λ (b : ℕ). b < len) (blocks_of ((a.group g).tree k).reading) (own.trees k))
    (owned_below len (a.group g).reserve own.reserve)
    (owned_below len (a.group g).limbo own.limbo)
    (units_below a g))
    (every_weaker (IsRight a g) (λ (c : Claimed). c.block < len) (λ c h. h.0) (fork_claims a g) (forks_right a g fit good))

-- ---- and has no offsets

pub tree_is_plain : (k : Kind) → is_inode (tree_owner k) ≡ false
tree_is_plain Bno = refl
tree_is_plain Cnt = refl
tree_is_plain Rmap = refl
tree_is_plain Refc = refl
tree_is_plain Ino = refl
tree_is_plain Fino = refl

-- what holds of each block for the log's owner
pub log_every : (P : Claimed → Type 0) → ((b : ℕ) → P (claimed_by Log (number_of OfLog) b)) → (log : Option Run3) (g : ℕ) → Every P (log_claims log g)
log_every P h None g = tt
log_every P h (Some run) g = every_if P (run.group == g) (map (claimed_by Log (number_of OfLog)) (numbers run.start run.count)) (λ is.
    every_map P (claimed_by Log (number_of OfLog)) (numbers run.start run.count) (every_of (λ (b : ℕ). P (claimed_by Log (number_of OfLog) b)) h (numbers run.start run.count)))

owned_told : (a : State) (os : List Owned) → AreNoInodes os → Every (λ (o : Owned). IsTold a o.owner 0) os
owned_told a os plain = every_weaker (λ (o : Owned). not (is_inode o.owner) ≡ true) (λ (o : Owned). IsTold a o.owner 0) (λ o h. inl (not-true (is_inode o.owner) h, refl)) os (test_every (λ (o : Owned). not (is_inode o.owner)) os plain)

pub each_told : (a : State) (g : ℕ) → HasFitting a.geometry → AreGoodForks a → AreNoInodes (a.group g).reserve → AreNoInodes (a.group g).limbo → Every (λ (c : Claimed). IsTold a c.owner c.word) (claims a g)
each_told a g fit good reserve limbo =
    claims_every a g (λ (c : Claimed). IsTold a c.owner c.word)
    (metadata_every a g (λ (c : Claimed). IsTold a c.owner c.word)
    (inl (refl, refl))
    (log_every (λ (c : Claimed). IsTold a c.owner c.word) (λ b. inl (refl, refl)) a.geometry.log g)
    (every_of (λ (b : ℕ). IsTold a (number_of Ag) 0) (λ b. inl (refl, refl)) (a.group g).free_list)
    (λ k. every_of (λ (b : ℕ). IsTold a (tree_owner k) 0) (λ b. inl (tree_is_plain k, refl)) (blocks_of ((a.group g).tree k).reading))
    (owned_told a (a.group g).reserve reserve)
    (owned_told a (a.group g).limbo limbo)
    (every_of (λ (u : ℕ). Every (λ (b : ℕ). IsTold a (number_of Inodes) 0) (numbers (8 * u) 8)) (λ u. every_of (λ (b : ℕ). IsTold a (number_of Inodes) 0) (λ b. inl (refl, refl)) (numbers (8 * u) 8)) (chunks a g)))
    (every_weaker (IsRight a g) (λ (c : Claimed). IsTold a c.owner c.word) (λ c h. inr h.1) (fork_claims a g) (forks_right a g fit good))
