-- Alike states have the same claims and derivations.
use Rattle.std.proofs.Common.{◌≡◌, ℕ, zero, suc, ◌+◌, ◌*◌, ◌<◌, Bool, true, false, cond, List, [], ◌∷◌, ◌++◌, refl, ap, ap₂, sym, ◌∙◌, inl, inr, arith, Some, None}
use Rattle.std.specs.Prelude.{◌⊎◌, ◌/◌, ◌%◌, ◌^◌, ◌||◌, nat_lt, map, filter, flat_map, sum_by, Result, Ok, Err, if◌then◌else◌}
use Rattle.std.proofs.lemmas.Bool.{and_parts, ltb-true, true≢false}
use Rattle.std.proofs.lemmas.List.Sums.{sum_by-cons}
use Rattle.derive_defs.specs.ByCount.{greatest, ordered_by_count}
use Rattle.derive_defs.specs.Shared.{shared_space}
use Rattle.dinode_core.specs.declared.mapping.Fork.{Fork}
use Rattle.dinode_core.specs.declared.mapping.Fork.TheVariants as forks
use Rattle.dinode_core.specs.declared.mapping.ForkFault.{ForkFault}
use Rattle.fs_state.specs.Chunks.{chunks, inode_in, inodes_in, inodes}
use Rattle.fs_state.specs.Claims.{Claimed, claimed_by, log_claims, metadata_claims, fork_claims, claims, data_claims, attribute_claims, tree_claims, mapping_claims, fork_tree_claims, read_fork, fork_of, attribute}
use Rattle.fs_state.specs.Derive.{is_free, chunk_record, ino_of, fino_of, bno_of, cnt_of, refc_of, derive, mappings}
use Rattle.fs_state.specs.Faults.{wanted, blocks_counted, beside_roots}
use Rattle.fs_state.specs.Records.{all_kinds, tree_owner, kinds_of, counters_of}
use Rattle.fs_state.specs.Laws.{EachCounter, EachTree, IsGoodTree, IsGoodCounter}
use Rattle.fs_state.specs.Lists.{numbers}
use Rattle.fs_state.specs.Own.{set_of, tuple_of, own, rmap_of}
use Rattle.fs_model.specs.declared.claim.Claim.TheVariants.{Heads, List as FreeList, Tree, Reserve, Limbo, Chunk, Data, Attr}
use Rattle.fs_model.specs.declared.fault.Counter.{Counter}
use Rattle.fs_model.specs.declared.fault.Counter.TheVariants.{Count, Freecount, Iblocks, Fblocks, RmapBlocks, Freeblks, Longest, Btreeblks, RefcountBlocks}
use Rattle.fs_state.specs.Apart.{has_unit, is_listed, is_chunk, in_chunk, is_inode, ino_lists, rmap_lists, unit_verifies}
use Rattle.fs_state.specs.Frame.{SameFork}
use Rattle.fs_state.specs.Kinds.{RecOf}
use Rattle.fs_state.specs.State.{State, Owned, Readable, ForkList, blocks_of, recs_of}
use Rattle.geom.specs.Apart.{Splits}
use Rattle.geom.specs.Layout.{Layout, fs_block_of, group_len_of, inode_at, split_of}
use Rattle.ino_recs.specs.declared.chunk.InoRec.{InoRec}
use Rattle.rmap_recs.specs.Owners.{number_of}
use Rattle.rmap_recs.specs.Runs.{runs_of}
use Rattle.rmap_recs.specs.declared.owner.Owner.TheVariants.{Fs, Ag, Inodes}
use Rattle.derive_defs.specs.Free.{block_count, free_space}
use Rattle.sblock.specs.declared.kind.Kind.{Kind}
use Rattle.sblock.specs.declared.kind.Kind.TheVariants.{Bno, Cnt, Rmap, Refc, Ino, Fino}
use Rattle.tree_defs.specs.Lists.{In}
use Rattle.law_repairs.specs.Repair.Alike.{AlikeGroup, AlikeInodes, AlikeLaw, GoodStays, SameCounter, SameTree}

-- ---- one unit

module _ (a b : State) (g : ℕ) where
  good_trees : (ks : List Kind) → EachTree (SameTree a b g) ks → EachTree (IsGoodTree a g) ks → EachTree (IsGoodTree b g) ks
  good_trees [] same good = tt
  good_trees (k ∷ ks) same good = (
    (good.0.0, same.0.reading ∙ good.0.1 ∙ ap (λ (rs : List (RecOf k)). Readable rs good.0.0) (sym same.0.derived)),
    good_trees ks same.1 good.1,
  )

  good_counters : (cs : List Counter) → EachCounter (SameCounter a b g) cs → EachCounter (IsGoodCounter a g) cs → EachCounter (IsGoodCounter b g) cs
  good_counters [] same good = tt
  good_counters (c ∷ cs) same good = (
    (λ n e. same.0.kept ∙ good.0 n (sym same.0.wanted_same ∙ e)),
    good_counters cs same.1 good.1,
  )

pub good_stays : GoodStays
good_stays a b g unit trees counters good = (good_trees a b g (kinds_of unit) trees good.0, good_counters a b g (counters_of unit) counters good.1)

-- ---- lists

pub flat_same : {X : Type 0} (f h : ℕ → List X) (xs : List ℕ) → ((x : ℕ) → In x xs → f x ≡ h x) → flat_map f xs ≡ flat_map h xs
flat_same f h [] e = refl
flat_same f h (x ∷ xs) e =
    let first = e x (inl refl) in
    let rest = flat_same f h xs (λ y i. e y (inr i)) in
    λ i. first i ++ rest i

map_same : {X : Type 0} (f h : ℕ → X) (xs : List ℕ) → ((x : ℕ) → In x xs → f x ≡ h x) → map f xs ≡ map h xs
map_same f h [] e = refl
map_same f h (x ∷ xs) e =
    let first = e x (inl refl) in
    let rest = map_same f h xs (λ y i. e y (inr i)) in
    λ i. first i ∷ rest i

sum_same : (f h : ℕ → ℕ) (xs : List ℕ) → ((x : ℕ) → In x xs → f x ≡ h x) → sum_by f xs ≡ sum_by h xs
sum_same f h [] e = refl
sum_same f h (x ∷ xs) e = sum_by-cons f x xs ∙ ap₂ (λ (m n : ℕ). m + n) (e x (inl refl)) (sum_same f h xs (λ y i. e y (inr i))) ∙ sym (sum_by-cons h x xs)

pub in_numbers : (from n x : ℕ) → In x (numbers from n) → x < from + n
in_numbers from zero x i = absurd i
in_numbers from (suc n) x (inl e) = omega (arith, e)
in_numbers from (suc n) x (inr i) = let h = in_numbers (from + 1) n x i in omega (arith, h)

pub passes : (p : ℕ → Bool) (xs : List ℕ) (x : ℕ) → In x (filter p xs) → (p x ≡ true) × In x xs
passes p [] x i = absurd i
passes p (y ∷ ys) x i = (elim (p y) as (λ b. p y ≡ b → In x (cond b (y ∷ filter p ys) (filter p ys)) → (p x ≡ true) × In x (y ∷ ys)) [
  | true ↦ λ e j. elim j [
    | inl same ↦ (ap p (sym same) ∙ e, inl same)
    | inr later ↦ let r = passes p ys x later in (r.0, inr r.1)
  ]
  | false ↦ λ e j. let r = passes p ys x j in (r.0, inr r.1)
]) refl i

pub in_map : (f : ℕ → ℕ) (xs : List ℕ) (y : ℕ) → In y (map f xs) → (x : ℕ) × In x xs × (f x ≡ y)
in_map f [] y i = absurd i
in_map f (x ∷ xs) y (inl e) = (x, inl refl, e)
in_map f (x ∷ xs) y (inr i) = let r = in_map f xs y i in (r.0, inr r.1, r.2)

in_both : (xs ys : List ℕ) (x : ℕ) → In x (xs ++ ys) → (In x xs) ⊎ (In x ys)
in_both [] ys x i = inr i
in_both (y ∷ xs) ys x (inl e) = inl (inl e)
in_both (y ∷ xs) ys x (inr i) = elim (in_both xs ys x i) [ inl h ↦ inl (inr h) | inr h ↦ inr h ]

pub in_flat : (f : ℕ → List ℕ) (xs : List ℕ) (y : ℕ) → In y (flat_map f xs) → (x : ℕ) × In x xs × In y (f x)
in_flat f [] y i = absurd i
in_flat f (x ∷ xs) y i = elim (in_both (f x) (flat_map f xs) y i) [
  | inl h ↦ (x, inl refl, h)
  | inr h ↦ let r = in_flat f xs y h in (r.0, inr r.1, r.2)
]

-- ---- the inodes of a chunk are inodes

place_is : (at : Layout) → Splits at → (g b s : ℕ) → g < at.agcount → b < group_len_of at g → s < 8 → split_of at (inode_at at g b s / 8) ≡ Some (g, b)
place_is at splits g b s gl bl sl =
    let e : inode_at at g b s / 8 ≡ fs_block_of at g b = omega arith in
    rw e (splits g b gl bl)

unit_parts : (a : State) (g u : ℕ) → is_chunk a g u ≡ true → (g < a.geometry.agcount) × (8 * u + 7 < group_len_of a.geometry g)
unfolding is_chunk is_listed has_unit
unit_parts a g u h =
    let l = and_parts (is_listed a g u) (unit_verifies a.geometry a.core g u) h in
    let x = and_parts (has_unit a.geometry g u) (ino_lists a g u || rmap_lists a g u) l.0 in
    let y = and_parts (nat_lt g a.geometry.agcount) (nat_lt (8 * u + 7) (group_len_of a.geometry g)) x.0 in
    (ltb-true g a.geometry.agcount y.0, ltb-true (8 * u + 7) (group_len_of a.geometry g) y.1)

pub of_chunk : (a : State) → Splits a.geometry → (g u i : ℕ) → is_chunk a g u ≡ true → i < 64 → is_inode a (inode_in a g u i) ≡ true
unfolding is_inode
of_chunk a splits g u i h lt =
    let p = unit_parts a g u h in
    let place = place_is a.geometry splits g (8 * u + i / 8) (i % 8) p.0 (omega (arith, p.1, lt)) (omega arith) in
    let unit : (8 * u + i / 8) / 8 ≡ u = omega (arith, lt) in
    ap (in_chunk a) place ∙ ap (is_chunk a g) unit ∙ h

pub is_inode_of : (a : State) → Splits a.geometry → (ino : ℕ) → In ino (inodes a) → is_inode a ino ≡ true
unfolding inodes inodes_in chunks
is_inode_of a splits ino i =
    let in_group = in_flat (inodes_in a) (numbers 0 a.geometry.agcount) ino i in
    let in_unit = in_flat (λ u. map (inode_in a in_group.0 u) (numbers 0 64)) (chunks a in_group.0) ino in_group.2 in
    let one = in_map (inode_in a in_group.0 in_unit.0) (numbers 0 64) ino in_unit.2 in
    let chunk = passes (is_chunk a in_group.0) (numbers 0 (group_len_of a.geometry in_group.0 / 8)) in_unit.0 in_unit.1 in
    ap (is_inode a) (sym one.2) ∙ of_chunk a splits in_group.0 in_unit.0 one.0 chunk.0 (in_numbers 0 64 one.0 one.1)

-- ---- records

same_read : (r s : Result ForkList ForkFault) → SameFork r s → read_fork s ≡ read_fork r
same_read (Ok list) s e = ap read_fork e
same_read (Err fault) (Err other) e = refl
same_read (Err fault) (Ok list) e = absurd (true≢false e)

module _ (a b : State) (splits : Splits a.geometry) (same : AlikeInodes a b) where
  pub chunks_same : (g : ℕ) → chunks b g ≡ chunks a g
  unfolding chunks
  chunks_same g = λ i. filter (λ u. same.chunks g u i) (numbers 0 (group_len_of (same.geometry i) g / 8))

  pub inodes_same : inodes b ≡ inodes a
  unfolding inodes inodes_in
  inodes_same = λ i. flat_map (λ h. flat_map (λ u. map (λ n. inode_at (same.geometry i) h (8 * u + n / 8) (n % 8)) (numbers 0 64)) (chunks_same h i)) (numbers 0 (same.geometry i).agcount)

  number_same : (g u n : ℕ) → inode_in b g u n ≡ inode_in a g u n
  number_same g u n = λ i. inode_at (same.geometry i) g (8 * u + n / 8) (n % 8)

  free_same : (g u n : ℕ) → is_chunk a g u ≡ true → n < 64 → is_free (b.core (inode_in b g u n)) ≡ is_free (a.core (inode_in a g u n))
  free_same g u n h lt = ap is_free (ap b.core (number_same g u n) ∙ same.cores (inode_in a g u n) (of_chunk a splits g u n h lt))

  over_same : (g u : ℕ) (f : ℕ → ℕ) → is_chunk a g u ≡ true
      → sum_by (λ n. if is_free (b.core (inode_in b g u n)) then f n else 0) (numbers 0 64) ≡ sum_by (λ n. if is_free (a.core (inode_in a g u n)) then f n else 0) (numbers 0 64)
  over_same g u f h = sum_same _ _ (numbers 0 64) (λ n i. ap (λ (t : Bool). if t then f n else 0) (free_same g u n h (in_numbers 0 64 n i)))

  record_same : (g u : ℕ) → is_chunk a g u ≡ true → chunk_record b g u ≡ chunk_record a g u
  record_same g u h = λ i. record { startino = 64 * u; holemask = 0; count = 64; freecount = over_same g u (λ n. 1) h i; free = over_same g u (λ n. 2 ^ n) h i }

  pub ino_same : (g : ℕ) → ino_of b g ≡ ino_of a g
  unfolding ino_of chunks
  ino_same g =
      ap (map (chunk_record b g)) (chunks_same g)
      ∙ map_same (chunk_record b g) (chunk_record a g) (chunks a g) (λ u i. record_same g u (passes (is_chunk a g) (numbers 0 (group_len_of a.geometry g / 8)) u i).0)

  pub bno_same : (g : ℕ) → mappings b g ≡ mappings a g → bno_of b g ≡ bno_of a g
  unfolding bno_of
  bno_same g maps = λ i. free_space (group_len_of (same.geometry i) g) (maps i)

  pub cnt_same : (g : ℕ) → mappings b g ≡ mappings a g → cnt_of b g ≡ cnt_of a g
  unfolding cnt_of
  cnt_same g maps = ap ordered_by_count (bno_same g maps)

  pub refc_same : (g : ℕ) → mappings b g ≡ mappings a g → refc_of b g ≡ refc_of a g
  unfolding refc_of
  refc_same g maps = ap shared_space maps

  pub fino_same : (g : ℕ) → fino_of b g ≡ fino_of a g
  unfolding fino_of
  fino_same g = ap (filter (λ (r : InoRec). nat_lt 0 r.freecount)) (ino_same g)

  -- what counters of inodes should be
  pub inodes_wanted : (g : ℕ) → (wanted b g Count ≡ wanted a g Count) × (wanted b g Freecount ≡ wanted a g Freecount)
  unfolding wanted
  inodes_wanted g = (ap (λ (rs : List InoRec). Some (sum_by (λ r. r.count) rs)) (ino_same g), ap (λ (rs : List InoRec). Some (sum_by (λ r. r.freecount) rs)) (ino_same g))

  -- and of free space
  pub space_wanted : (g : ℕ) → mappings b g ≡ mappings a g → (wanted b g Freeblks ≡ wanted a g Freeblks) × (wanted b g Longest ≡ wanted a g Longest)
  unfolding wanted
  space_wanted g maps = ((λ i. Some (block_count (bno_same g maps i))), (λ i. Some (greatest (cnt_same g maps i))))

  -- ---- forks

  fork_same : (ino : ℕ) (f : Fork) → In ino (inodes a) → fork_of b ino f ≡ fork_of a ino f
  fork_same ino f i = same_read (a.fork ino f) (b.fork ino f) (same.forks ino f i)

  data_same : (g ino : ℕ) → In ino (inodes a) → data_claims b g ino ≡ data_claims a g ino
  data_same g ino h = λ i. mapping_claims (same.geometry i) g (Data ino) ino 0 (fork_same ino forks.Data h i).mappings

  attribute_same : (g ino : ℕ) → In ino (inodes a) → attribute_claims b g ino ≡ attribute_claims a g ino
  attribute_same g ino h = λ i. mapping_claims (same.geometry i) g (Attr ino) ino attribute (fork_same ino forks.Attr h i).mappings

  blocks_same : (g ino : ℕ) → In ino (inodes a) → tree_claims b g ino ≡ tree_claims a g ino
  blocks_same g ino h = λ i. fork_tree_claims (same.geometry i) g ino 0 (fork_same ino forks.Data h i).blocks ++ fork_tree_claims (same.geometry i) g ino attribute (fork_same ino forks.Attr h i).blocks

  over_inodes : (f h : ℕ → List Claimed) → ((x : ℕ) → In x (inodes a) → f x ≡ h x) → flat_map f (inodes b) ≡ flat_map h (inodes a)
  over_inodes f h e = ap (flat_map f) inodes_same ∙ flat_same f h (inodes a) e

  pub forks_same : (g : ℕ) → fork_claims b g ≡ fork_claims a g
  unfolding fork_claims
  forks_same g =
      let first = over_inodes (data_claims b g) (data_claims a g) (data_same g) in
      let second = over_inodes (attribute_claims b g) (attribute_claims a g) (attribute_same g) in
      let third = over_inodes (tree_claims b g) (tree_claims a g) (blocks_same g) in
      λ i. first i ++ second i ++ third i

-- ---- counters of blocks

module _ (a b : State) (g : ℕ) (at : b.geometry ≡ a.geometry) where
  pub ino_blocks : ((b.group g).tree Ino).reading ≡ ((a.group g).tree Ino).reading → wanted b g Iblocks ≡ wanted a g Iblocks
  unfolding wanted
  ino_blocks e = λ i. if (at i).inobtcount then blocks_counted (e i) else None

  pub fino_blocks : ((b.group g).tree Fino).reading ≡ ((a.group g).tree Fino).reading → wanted b g Fblocks ≡ wanted a g Fblocks
  unfolding wanted
  fino_blocks e = λ i. if (at i).inobtcount then blocks_counted (e i) else None

  pub rmap_blocks : ((b.group g).tree Rmap).reading ≡ ((a.group g).tree Rmap).reading → wanted b g RmapBlocks ≡ wanted a g RmapBlocks
  unfolding wanted
  rmap_blocks e = ap blocks_counted e

  pub refc_blocks : ((b.group g).tree Refc).reading ≡ ((a.group g).tree Refc).reading → wanted b g RefcountBlocks ≡ wanted a g RefcountBlocks
  unfolding wanted
  refc_blocks e = ap blocks_counted e

  pub tree_blocks : ((b.group g).tree Bno).reading ≡ ((a.group g).tree Bno).reading → ((b.group g).tree Cnt).reading ≡ ((a.group g).tree Cnt).reading → ((b.group g).tree Rmap).reading ≡ ((a.group g).tree Rmap).reading
      → wanted b g Btreeblks ≡ wanted a g Btreeblks
  unfolding wanted
  tree_blocks e f h = λ i. beside_roots (blocks_counted (e i)) (blocks_counted (f i)) (blocks_counted (h i))

-- ---- alike groups

module _ (a b : State) (g : ℕ) (splits : Splits a.geometry) (same : AlikeInodes a b) (alike : AlikeGroup (a.group g) (b.group g)) where
  metadata_same : metadata_claims b g ≡ metadata_claims a g
  unfolding metadata_claims
  metadata_same = λ i. claimed_by Heads (number_of Fs) 0 ∷ log_claims (same.geometry i).log g
      ++ map (claimed_by FreeList (number_of Ag)) (alike.list i)
      ++ flat_map (λ k. map (claimed_by (Tree k) (tree_owner k)) (blocks_of (alike.reading k i))) all_kinds
      ++ map (λ (o : Owned). claimed_by Reserve o.owner o.block) (alike.reserve i)
      ++ map (λ (o : Owned). claimed_by Limbo o.owner o.block) (alike.limbo i)
      ++ flat_map (λ u. map (claimed_by Chunk (number_of Inodes)) (numbers (8 * u) 8)) (chunks_same a b splits same g i)

  pub claims_same : claims b g ≡ claims a g
  unfolding claims
  claims_same = λ i. metadata_same i ++ forks_same a b splits same g i

  pub rmap_same : rmap_of b g ≡ rmap_of a g
  unfolding rmap_of own
  rmap_same = λ i. runs_of (set_of (map tuple_of (claims_same i)))

  mappings_same : mappings b g ≡ mappings a g
  mappings_same = ap recs_of (alike.reading Rmap)

  derive_same : (k : Kind) → derive b g k ≡ derive a g k
  unfolding derive
  derive_same Bno = bno_same a b splits same g mappings_same
  derive_same Cnt = cnt_same a b splits same g mappings_same
  derive_same Rmap = rmap_same
  derive_same Refc = refc_same a b splits same g mappings_same
  derive_same Ino = ino_same a b splits same g
  derive_same Fino = fino_same a b splits same g

  wanted_same : (name : Counter) → wanted b g name ≡ wanted a g name
  wanted_same Count = (inodes_wanted a b splits same g).0
  wanted_same Freecount = (inodes_wanted a b splits same g).1
  wanted_same Iblocks = ino_blocks a b g same.geometry (alike.reading Ino)
  wanted_same Fblocks = fino_blocks a b g same.geometry (alike.reading Fino)
  wanted_same RmapBlocks = rmap_blocks a b g same.geometry (alike.reading Rmap)
  wanted_same Freeblks = (space_wanted a b splits same g mappings_same).0
  wanted_same Longest = (space_wanted a b splits same g mappings_same).1
  wanted_same Btreeblks = tree_blocks a b g same.geometry (alike.reading Bno) (alike.reading Cnt) (alike.reading Rmap)
  wanted_same RefcountBlocks = refc_blocks a b g same.geometry (alike.reading Refc)

  tree_same : (k : Kind) → SameTree a b g k
  tree_same k = record { reading = alike.reading k; derived = derive_same k }

  counter_same : (name : Counter) → SameCounter a b g name
  counter_same name = record { kept = ap (λ (f : Counter → ℕ). f name) alike.counters; wanted_same = wanted_same name }

  each_tree : (ks : List Kind) → EachTree (SameTree a b g) ks
  each_tree [] = tt
  each_tree (k ∷ ks) = (tree_same k, each_tree ks)

  each_counter : (cs : List Counter) → EachCounter (SameCounter a b g) cs
  each_counter [] = tt
  each_counter (c ∷ cs) = (counter_same c, each_counter cs)

pub alike_law : AlikeLaw
alike_law a b g splits same alike = record {
  claimed = claims_same a b g splits same alike;
  derived = derive_same a b g splits same alike;
  counted = wanted_same a b g splits same alike;
  good = λ unit. good_stays a b g unit (each_tree a b g splits same alike (kinds_of unit)) (each_counter a b g splits same alike (counters_of unit));
}
