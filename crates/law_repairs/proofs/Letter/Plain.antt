-- An owner that is no inode has no offset: only forks have, and they are inodes'.
use Rattle.std.proofs.Common.{◌≡◌, ℕ, zero, suc, ◌+◌, ◌*◌, ◌<◌, ◌≤◌, ◌==◌, ◌&&◌, ◌||◌, Bool, true, false, List, [], ◌∷◌, ◌++◌, map, flat_map, refl, ap, ap₂, sym, ◌∙◌, inl, inr, arith, Option, Some, None, eqb-true}
use Rattle.std.specs.Prelude.{◌-◌, ◌/◌, ◌%◌, ◌^◌, if◌then◌else◌}
use Rattle.std.specs.List.{list_all}
use Rattle.std.proofs.lemmas.Bool.{and_parts, lt-ltb, true≢false}
use Rattle.std.proofs.lemmas.Nat.{mul-le}
use Rattle.dinode_core.specs.ForkTree.{TreeBlock}
use Rattle.dinode_core.specs.declared.mapping.Fork.TheVariants as forks
use Rattle.dinode_core.specs.declared.mapping.Mapping.{Mapping}
use Rattle.fs_change.proofs.Sets.{has_set, same_is}
use Rattle.fs_state.specs.Chunks.{chunks, inode_in, inodes, inodes_in}
use Rattle.fs_state.specs.Claims.{Claimed, attribute, attribute_claims, blocks_at, claimed_by, claims, data_claims, fork_claims, fork_of, fork_tree, fork_tree_claims, log_claims, mapped_blocks, mapping_claims, metadata_claims, tree_block_at, tree_claims, word_of}
use Rattle.fs_state.specs.Records.{all_kinds, tree_owner}
use Rattle.fs_state.specs.Lists.{numbers, only_if}
use Rattle.fs_state.specs.Own.{own, tuple_of}
use Rattle.fs_model.specs.declared.claim.Claim.{Claim}
use Rattle.fs_model.specs.declared.claim.Claim.TheVariants.{Attr, Chunk, Data, ForkTree, Limbo, List as FreeList, Log, Reserve, Tree}
use Rattle.fs_state.specs.Apart.{is_chunk}
use Rattle.fs_state.specs.State.{State, Group, Owned, blocks_of}
use Rattle.geom.specs.Apart.{HasFitting}
use Rattle.geom.specs.Layout.{group_len_of, split_of}
use Rattle.geom.specs.declared.geometry.Run3.{Run3}
use Rattle.rmap_recs.specs.Owners.{is_inode, number_of}
use Rattle.rmap_recs.specs.Runs.{has, is_same}
use Rattle.rmap_recs.specs.declared.owner.Owner.TheVariants.{Ag, Inodes, Log as OfLog}
use Rattle.rmap_recs.specs.declared.tuples.Tuple.{Tuple}
use Rattle.sblock.specs.declared.kind.Kind.{Kind}
use Rattle.tree_defs.specs.Lists.{In}
use Rattle.law_repairs.specs.Repair.Owners.{ArePlain}
use Rattle.law_repairs.proofs.Repair.Same.{in_flat, in_map, in_numbers, passes}
use Rattle.law_repairs.proofs.Move.Space.{short_group}

-- ---- numbers of inodes are below those of other owners

small_number : (place u i len : ℕ) → place ≤ 65536 * 536870912 → len < 2 ^ 32 → u < len / 8 → i < 64 → (place + (8 * u + i / 8)) * 8 + i % 8 < 2 ^ 64 - 9
small_number place u i len high short below few = omega (arith, high, short, below, few)

log_within : (x y : ℕ) → x < 2 * y → y ≤ 268435456 → x ≤ 536870912
log_within x y e h = omega (arith, e, h)

pub inode_number : (a : State) → HasFitting a.geometry → (ino : ℕ) → In ino (inodes a) → is_inode ino ≡ true
unfolding inodes inodes_in chunks
inode_number a fit ino i =
    let in_group = in_flat (inodes_in a) (numbers 0 a.geometry.agcount) ino i in
    let in_unit = in_flat (λ u. map (inode_in a in_group.0 u) (numbers 0 64)) (chunks a in_group.0) ino in_group.2 in
    let one = in_map (inode_in a in_group.0 in_unit.0) (numbers 0 64) ino in_unit.2 in
    let chunk = passes (is_chunk a in_group.0) (numbers 0 (group_len_of a.geometry in_group.0 / 8)) in_unit.0 in_unit.1 in
    let group = in_numbers 0 a.geometry.agcount in_group.0 in_group.1 in
    let unit = in_numbers 0 (group_len_of a.geometry in_group.0 / 8) in_unit.0 chunk.1 in
    let slot = in_numbers 0 64 one.0 one.1 in
    let few = fit.few_groups in
    let least = fit.least in
    let short = fit.short_groups in
    let place = mul-le in_group.0 (2 ^ a.geometry.agblklog) 65536 536870912 (omega (arith, group, few)) (log_within (2 ^ a.geometry.agblklog) a.geometry.agblocks least short) in
    lt-ltb ino (2 ^ 64 - 9) (below one.2 (small_number (in_group.0 * 2 ^ a.geometry.agblklog) in_unit.0 one.0 (group_len_of a.geometry in_group.0) place (short_group a.geometry in_group.0 fit) (omega (arith, unit)) (omega (arith, slot))))
  where
    below : {m n : ℕ} → m ≡ n → m < 2 ^ 64 - 9 → n < 2 ^ 64 - 9
    below e h = omega (arith, e, h)

-- ---- claims by themselves

abbrev is_plain : Claimed → Bool
is_plain c = (c.word == 0) || is_inode c.owner

or_right : (x y : Bool) → y ≡ true → (x || y) ≡ true
or_right true y h = refl
or_right false y h = h

both_true : {x y : Bool} → x ≡ true → y ≡ true → (x && y) ≡ true
both_true e f = ap₂ (λ (s t : Bool). s && t) e f

all_map : {X : Type 0} (f : X → Claimed) (xs : List X) → ((x : X) → is_plain (f x) ≡ true) → list_all is_plain (map f xs) ≡ true
all_map f [] h = refl
all_map f (x ∷ xs) h = both_true (h x) (all_map f xs h)

all_both : (xs ys : List Claimed) → list_all is_plain xs ≡ true → list_all is_plain ys ≡ true → list_all is_plain (xs ++ ys) ≡ true
all_both [] ys h k = k
all_both (x ∷ xs) ys h k = let p = and_parts (is_plain x) (list_all is_plain xs) h in both_true p.0 (all_both xs ys p.1 k)

all_flat : {X : Type 0} (f : X → List Claimed) (xs : List X) → ((x : X) → list_all is_plain (f x) ≡ true) → list_all is_plain (flat_map f xs) ≡ true
all_flat f [] h = refl
all_flat f (x ∷ xs) h = all_both (f x) (flat_map f xs) (h x) (all_flat f xs h)

-- of numbers that stand in the list
all_of : (f : ℕ → List Claimed) (xs : List ℕ) → ((x : ℕ) → In x xs → list_all is_plain (f x) ≡ true) → list_all is_plain (flat_map f xs) ≡ true
all_of f [] h = refl
all_of f (x ∷ xs) h = all_both (f x) (flat_map f xs) (h x (inl refl)) (all_of f xs (λ y i. h y (inr i)))

if_all : (k : Bool) (xs : List Claimed) → list_all is_plain xs ≡ true → list_all is_plain (if k then xs else []) ≡ true
if_all true xs h = h
if_all false xs h = refl

one_if : (k : Bool) (c : Claimed) → is_plain c ≡ true → list_all is_plain (only_if k c) ≡ true
one_if true c h = both_true h refl
one_if false c h = refl

-- ---- forks

module _ (a : State) (g ino : ℕ) (file : is_inode ino ≡ true) where
  mapped : (c : Claim) (b word n : ℕ) → list_all is_plain (mapped_blocks c ino b word n) ≡ true
  mapped c b word zero = refl
  mapped c b word (suc n) = both_true (or_right (word == 0) (is_inode ino) file) (mapped c (b + 1) (word + 1) n)

  placed : (c : Claim) (flag : ℕ) (m : Mapping) (o : Option (ℕ × ℕ)) → list_all is_plain (blocks_at g c ino flag m o) ≡ true
  placed c flag m None = refl
  placed c flag m (Some p) = if_all (p.0 == g) (mapped_blocks c ino p.1 (word_of flag m) m.count) (mapped c p.1 (word_of flag m) m.count)

  in_tree : (flag : ℕ) (o : Option (ℕ × ℕ)) → list_all is_plain (tree_block_at g ino flag o) ≡ true
  in_tree flag None = refl
  in_tree flag (Some p) = one_if (p.0 == g) (record { block = p.1; claim = ForkTree ino; owner = ino; word = fork_tree + flag }) (or_right (fork_tree + flag == 0) (is_inode ino) file)

  mappings_plain : (c : Claim) (flag : ℕ) (ms : List Mapping) → list_all is_plain (mapping_claims a.geometry g c ino flag ms) ≡ true
  mappings_plain c flag ms = all_flat (λ (m : Mapping). blocks_at g c ino flag m (split_of a.geometry m.block)) ms (λ m. placed c flag m (split_of a.geometry m.block))

  trees_plain : (flag : ℕ) (bs : List TreeBlock) → list_all is_plain (fork_tree_claims a.geometry g ino flag bs) ≡ true
  trees_plain flag bs = all_flat (λ (b : TreeBlock). tree_block_at g ino flag (split_of a.geometry b.block)) bs (λ b. in_tree flag (split_of a.geometry b.block))

  both_trees : list_all is_plain (tree_claims a g ino) ≡ true
  both_trees =
      all_both (fork_tree_claims a.geometry g ino 0 (fork_of a ino forks.Data).blocks) (fork_tree_claims a.geometry g ino attribute (fork_of a ino forks.Attr).blocks)
      (trees_plain 0 (fork_of a ino forks.Data).blocks) (trees_plain attribute (fork_of a ino forks.Attr).blocks)

forks_plain : (a : State) (g : ℕ) → HasFitting a.geometry → list_all is_plain (fork_claims a g) ≡ true
unfolding fork_claims
forks_plain a g fit =
    let mapped_data : List Claimed = flat_map (data_claims a g) (inodes a) in
    let attributes : List Claimed = flat_map (attribute_claims a g) (inodes a) in
    all_both (mapped_data ++ attributes) (flat_map (tree_claims a g) (inodes a))
    (all_both mapped_data attributes
    (all_of (data_claims a g) (inodes a) (λ ino i. mappings_plain a g ino (inode_number a fit ino i) (Data ino) 0 (fork_of a ino forks.Data).mappings))
    (all_of (attribute_claims a g) (inodes a) (λ ino i. mappings_plain a g ino (inode_number a fit ino i) (Attr ino) attribute (fork_of a ino forks.Attr).mappings)))
    (all_of (tree_claims a g) (inodes a) (λ ino i. both_trees a g ino (inode_number a fit ino i)))

-- ---- the group's own metadata

log_plain : (o : Option Run3) (g : ℕ) → list_all is_plain (log_claims o g) ≡ true
log_plain None g = refl
log_plain (Some run) g = if_all (run.group == g) (map (claimed_by Log (number_of OfLog)) (numbers run.start run.count)) (all_map (claimed_by Log (number_of OfLog)) (numbers run.start run.count) (λ b. refl))

metadata_plain : (a : State) (g : ℕ) → list_all is_plain (metadata_claims a g) ≡ true
unfolding metadata_claims
metadata_plain a g =
    let p : Group = a.group g in
    let log : List Claimed = log_claims a.geometry.log g in
    let list : List Claimed = map (claimed_by FreeList (number_of Ag)) p.free_list in
    let trees : List Claimed = flat_map (λ (k : Kind). map (claimed_by (Tree k) (tree_owner k)) (blocks_of (p.tree k).reading)) all_kinds in
    let reserve : List Claimed = map (λ (o : Owned). claimed_by Reserve o.owner o.block) p.reserve in
    let limbo : List Claimed = map (λ (o : Owned). claimed_by Limbo o.owner o.block) p.limbo in
    let units : List Claimed = flat_map (λ (u : ℕ). map (claimed_by Chunk (number_of Inodes)) (numbers (8 * u) 8)) (chunks a g) in
    all_both (log ++ list ++ trees ++ reserve ++ limbo) units
    (all_both (log ++ list ++ trees ++ reserve) limbo
    (all_both (log ++ list ++ trees) reserve
    (all_both (log ++ list) trees
    (all_both log list (log_plain a.geometry.log g) (all_map (claimed_by FreeList (number_of Ag)) p.free_list (λ b. refl)))
    (all_flat (λ (k : Kind). map (claimed_by (Tree k) (tree_owner k)) (blocks_of (p.tree k).reading)) all_kinds (λ k. all_map (claimed_by (Tree k) (tree_owner k)) (blocks_of (p.tree k).reading) (λ b. refl))))
    (all_map (λ (o : Owned). claimed_by Reserve o.owner o.block) p.reserve (λ o. refl)))
    (all_map (λ (o : Owned). claimed_by Limbo o.owner o.block) p.limbo (λ o. refl)))
    (all_flat (λ (u : ℕ). map (claimed_by Chunk (number_of Inodes)) (numbers (8 * u) 8)) (chunks a g) (λ u. all_map (claimed_by Chunk (number_of Inodes)) (numbers (8 * u) 8) (λ b. refl)))

claims_plain : (a : State) (g : ℕ) → HasFitting a.geometry → list_all is_plain (claims a g) ≡ true
unfolding claims
claims_plain a g fit = all_both (metadata_claims a g) (fork_claims a g) (metadata_plain a g) (forks_plain a g fit)

-- ---- owners

found_plain : (cs : List Claimed) (t : Tuple) → list_all is_plain cs ≡ true → has (map tuple_of cs) t ≡ true → ((t.word == 0) || is_inode t.owner) ≡ true
found_plain [] t h i = absurd (true≢false (sym i))
found_plain (c ∷ cs) t h i =
    let p = and_parts (is_plain c) (list_all is_plain cs) h in
    (elim (is_same t (tuple_of c)) as (λ b. is_same t (tuple_of c) ≡ b → (b || has (map tuple_of cs) t) ≡ true → ((t.word == 0) || is_inode t.owner) ≡ true) [
      | true ↦ λ e j. ap (λ (u : Tuple). (u.word == 0) || is_inode u.owner) (same_is t (tuple_of c) e) ∙ p.0
      | false ↦ λ e j. found_plain cs t p.1 j
    ]) refl i

or_left : (x y : Bool) → (x || y) ≡ true → y ≡ false → x ≡ true
or_left true y h e = refl
or_left false y h e = absurd (true≢false (sym h ∙ e))

pub plain_words : (a : State) (g owner : ℕ) → HasFitting a.geometry → is_inode owner ≡ false → ArePlain a g owner
unfolding own
plain_words a g owner fit plain t there same =
    eqb-true t.word 0 (or_left (t.word == 0) (is_inode t.owner)
    (found_plain (claims a g) t (claims_plain a g fit) (sym (has_set (map tuple_of (claims a g)) t) ∙ there)) (ap is_inode same ∙ plain))
