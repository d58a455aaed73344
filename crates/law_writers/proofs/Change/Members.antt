-- Whose blocks forks are, by inode.
use Rattle.std.proofs.Common.{◌≡◌, ℕ, ◌+◌, ◌*◌, ◌^◌, ◌<◌, ◌≤◌, ◌==◌, ◌&&◌, ◌||◌, zero, suc, Bool, true, false, cond, nat_lt, List, [], ◌∷◌, ◌++◌, map, filter, flat_map, Option, Some, None, refl, sym, ap, ap₂, subst, ◌∙◌, arith, eqb-true, eq-eqb}
use Rattle.std.specs.Prelude.{◌/◌, ◌%◌}
use Rattle.std.specs.List.{list_any}
use Rattle.std.proofs.lemmas.Bool.{false≢true, true≢false, and_parts, ltb-true}
use Rattle.std.proofs.lemmas.Bool.Decides.{nat_tests}
use Rattle.std.proofs.lemmas.Nat.{div-add-mod'}
use Rattle.dinode_core.specs.ForkTree.{TreeBlock}
use Rattle.dinode_core.specs.declared.mapping.Fork.TheVariants as forks
use Rattle.dinode_core.specs.declared.mapping.Mapping.{Mapping}
use Rattle.fs_model.specs.declared.claim.Claim.{Claim}
use Rattle.fs_model.specs.declared.claim.Claim.TheVariants.{Data, Attr, ForkTree}
use Rattle.geom.proofs.ApartLemmas.{splits_in}
use Rattle.geom.specs.Apart.{HasFitting}
use Rattle.geom.specs.Layout.{Layout, group_len_of, fs_block_of, inode_at, split_of}
use Rattle.geom.specs.Numbers.{length_of, split}
use Rattle.rmap_recs.specs.Runs.{is_same, has}
use Rattle.rmap_recs.specs.declared.tuples.Tuple.{Tuple}
use Rattle.fs_state.specs.Apart.{is_inode, in_chunk, is_chunk, is_listed, has_unit, unit_verifies, ino_lists, rmap_lists}
use Rattle.fs_state.specs.State.{State}
use Rattle.fs_state.specs.Chunks.{chunks, inode_in, inodes_in, inodes}
use Rattle.fs_state.specs.Claims.{Claimed, word_of, mapped_blocks, blocks_at, mapping_claims, tree_block_at, fork_tree_claims, data_claims, attribute_claims, tree_claims, fork_claims, fork_of, attribute}
use Rattle.fs_state.specs.Lists.{numbers, only_if}
use Rattle.fs_state.specs.Own.{tuple_of}
use Rattle.law_writers.specs.Change.Owners.{inode_claims, OwnersByInode}

-- ---- tests of lists

pub or_again : (a b c : Bool) → (a || (b || c)) ≡ ((a || b) || c)
or_again true b c = refl
or_again false b c = refl

pub both_ways : (a b : Bool) → (a ≡ true → b ≡ true) → (b ≡ true → a ≡ true) → a ≡ b
both_ways true true f g = refl
both_ways true false f g = sym (f refl)
both_ways false true f g = g refl
both_ways false false f g = refl

pub any_both : {X : Type 0} (p : X → Bool) (xs ys : List X) → list_any p (xs ++ ys) ≡ (list_any p xs || list_any p ys)
any_both p [] ys = refl
any_both p (x ∷ xs) ys = ap (λ b. p x || b) (any_both p xs ys) ∙ or_again (p x) (list_any p xs) (list_any p ys)

pub any_flat : {X Y : Type 0} (p : Y → Bool) (F : X → List Y) (xs : List X) → list_any p (flat_map F xs) ≡ list_any (λ x. list_any p (F x)) xs
any_flat p F [] = refl
any_flat p F (x ∷ xs) = any_both p (F x) (flat_map F xs) ∙ ap (λ b. list_any p (F x) || b) (any_flat p F xs)

pub any_map : {X Y : Type 0} (p : Y → Bool) (f : X → Y) (xs : List X) → list_any p (map f xs) ≡ list_any (λ x. p (f x)) xs
any_map p f [] = refl
any_map p f (x ∷ xs) = ap (λ b. p (f x) || b) (any_map p f xs)

pub any_filter : {X : Type 0} (p q : X → Bool) (xs : List X) → list_any p (filter q xs) ≡ list_any (λ x. q x && p x) xs
any_filter p q [] = refl
any_filter p q (x ∷ xs) = elim (q x) as (λ b. list_any p (cond b (x ∷ filter q xs) (filter q xs)) ≡ ((b && p x) || list_any (λ y. q y && p y) xs)) [
  | true ↦ ap (λ b. p x || b) (any_filter p q xs)
  | false ↦ any_filter p q xs
]

pub any_same : {X : Type 0} (p q : X → Bool) (xs : List X) → ((x : X) → p x ≡ q x) → list_any p xs ≡ list_any q xs
any_same p q [] h = refl
any_same p q (x ∷ xs) h = ap₂ (λ b c. b || c) (h x) (any_same p q xs h)

pub none_any : {X : Type 0} (p : X → Bool) (xs : List X) → ((x : X) → p x ≡ false) → list_any p xs ≡ false
none_any p [] h = refl
none_any p (x ∷ xs) h = ap₂ (λ b c. b || c) (h x) (none_any p xs h)

-- which of the numbers passes, and that one that passes is found
pub which : (p : ℕ → Bool) (a n : ℕ) → list_any p (numbers a n) ≡ true → (m : ℕ) × (a ≤ m) × (m < a + n) × (p m ≡ true)
which p a zero h = absurd (false≢true h)
which p a (suc n) h = (elim (p a) as (λ b. p a ≡ b → (b || list_any p (numbers (a + 1) n)) ≡ true → (m : ℕ) × (a ≤ m) × (m < a + suc n) × (p m ≡ true)) [
  | true ↦ λ e i. (a, omega arith, omega arith, e)
  | false ↦ λ e i. let w = which p (a + 1) n i in (w.0, omega (arith, w.1), omega (arith, w.2), w.3)
]) refl h

-- of those from 0 on
pub which_below : (p : ℕ → Bool) (n : ℕ) → list_any p (numbers 0 n) ≡ true → (m : ℕ) × (m < n) × (p m ≡ true)
which_below p n h = let w = which p 0 n h in (w.0, omega (arith, w.2), w.3)

pub found : (p : ℕ → Bool) (a n m : ℕ) → a ≤ m → m < a + n → p m ≡ true → list_any p (numbers a n) ≡ true
found p a zero m h i e = absurd (omega arith)
found p a (suc n) m h i e = (elim (a == m) as (λ b. (a == m) ≡ b → (p a || list_any p (numbers (a + 1) n)) ≡ true) [
  | true ↦ λ same. ap (λ b. b || list_any p (numbers (a + 1) n)) (ap p (eqb-true a m same) ∙ e)
  | false ↦ λ other. or_right (p a) (list_any p (numbers (a + 1) n)) (found p (a + 1) n m (grind (arith, nat_tests)) (omega arith) e)
]) refl
  where
    or_right : (x y : Bool) → y ≡ true → (x || y) ≡ true
    or_right true y h = refl
    or_right false y h = h

pub found_below : (p : ℕ → Bool) (n m : ℕ) → m < n → p m ≡ true → list_any p (numbers 0 n) ≡ true
found_below p n m h e = found p 0 n m (omega arith) (omega (arith, h)) e

-- ---- places of inodes

-- an inode's number leads to its block
pub at_block : (at : Layout) (g b s : ℕ) → s < 8 → inode_at at g b s / 8 ≡ fs_block_of at g b
at_block at g b s h = eighth (fs_block_of at g b) s h
  where
    eighth : (n s : ℕ) → s < 8 → (n * 8 + s) / 8 ≡ n
    eighth n s h = omega arith

pub leads_back : (at : Layout) (g b s : ℕ) → HasFitting at → s < 8 → g < at.agcount → b < group_len_of at g → split_of at (inode_at at g b s / 8) ≡ Some (g, b)
leads_back at g b s fit h gl bl = ap (split_of at) (at_block at g b s h) ∙ splits_in at fit g b gl bl

pub record IsSplit (at : Layout) (n g b : ℕ) : Type 0 where
  pub group : g < at.agcount
  pub block : b < group_len_of at g
  pub number : fs_block_of at g b ≡ n
  pub high : n / 2 ^ at.agblklog ≡ g

nothing : {X : Type 0} (x : X) → None ≡ Some x → ⊥
nothing x h = false≢true (ap (λ o. (elim o [ None ↦ false | Some y ↦ true ])) h)

pub split_parts : (at : Layout) (n g b : ℕ) → split_of at n ≡ Some (g, b) → IsSplit at n g b
unfolding split
split_parts at n g b h =
    let x : ℕ = n / 2 ^ at.agblklog in
    let y : ℕ = n % 2 ^ at.agblklog in
    let place : ℕ × ℕ = (x, y) in
    (elim (nat_lt x at.agcount && nat_lt y (length_of at.agblocks at.agcount at.dblocks x)) as (λ t. (nat_lt x at.agcount && nat_lt y (length_of at.agblocks at.agcount at.dblocks x)) ≡ t → cond t (Some place) None ≡ Some (g, b) → IsSplit at n g b) [
      | true ↦ λ e k.
          let v = and_parts (nat_lt x at.agcount) (nat_lt y (length_of at.agblocks at.agcount at.dblocks x)) e in
          let first : x ≡ g = ap (λ o. (elim o [ None ↦ x | Some p ↦ p.0 ])) k in
          let second : y ≡ b = ap (λ o. (elim o [ None ↦ y | Some p ↦ p.1 ])) k in
          record {
            group = subst (λ m. m < at.agcount) first (ltb-true x at.agcount v.0);
            block = subst (λ m. m < group_len_of at g) second (subst (λ m. y < group_len_of at m) first (ltb-true y (group_len_of at x) v.1));
            number = ap₂ (λ p q. p * 2 ^ at.agblklog + q) (sym first) (sym second) ∙ div-add-mod' n (2 ^ at.agblklog);
            high = first;
          }
      | false ↦ λ e k. absurd (nothing (g, b) k)
    ]) refl h

-- ---- the inodes of an image

-- the number is that of an inode of this unit
abbrev of_unit : (a : State) (g u o : ℕ) → Bool
of_unit a g u o = list_any (λ i. inode_in a g u i == o) (numbers 0 64)

abbrev of_group : (a : State) (g o : ℕ) → Bool
of_group a g o = list_any (λ u. is_chunk a g u && of_unit a g u o) (numbers 0 (group_len_of a.geometry g / 8))

by_units : (a : State) (g o : ℕ) → list_any (λ n. n == o) (inodes_in a g) ≡ of_group a g o
unfolding inodes_in chunks
by_units a g o =
    any_flat (λ n. n == o) (λ u. map (inode_in a g u) (numbers 0 64)) (filter (is_chunk a g) (numbers 0 (group_len_of a.geometry g / 8)))
    ∙ any_same _ (λ u. of_unit a g u o) (filter (is_chunk a g) (numbers 0 (group_len_of a.geometry g / 8))) (λ u. any_map (λ n. n == o) (inode_in a g u) (numbers 0 64))
    ∙ any_filter (λ u. of_unit a g u o) (is_chunk a g) (numbers 0 (group_len_of a.geometry g / 8))

by_groups : (a : State) (o : ℕ) → list_any (λ n. n == o) (inodes a) ≡ list_any (λ g. of_group a g o) (numbers 0 a.geometry.agcount)
unfolding inodes
by_groups a o = any_flat (λ n. n == o) (inodes_in a) (numbers 0 a.geometry.agcount) ∙ any_same _ (λ g. of_group a g o) (numbers 0 a.geometry.agcount) (λ g. by_units a g o)

low_slot : (i : ℕ) → i % 8 < 8
low_slot i = omega arith

inside_unit : (u i len : ℕ) → u < len / 8 → i < 64 → 8 * u + i / 8 < len
inside_unit u i len h j = omega (arith, h, j)

its_unit : (u i : ℕ) → i < 64 → (8 * u + i / 8) / 8 ≡ u
its_unit u i h = omega (arith, h)

is_there : (a : State) (o : ℕ) → HasFitting a.geometry → list_any (λ g. of_group a g o) (numbers 0 a.geometry.agcount) ≡ true → is_inode a o ≡ true
unfolding is_inode
is_there a o fit h =
    let w = which_below (λ g. of_group a g o) a.geometry.agcount h in
    let g : ℕ = w.0 in
    let v = which_below (λ u. is_chunk a g u && of_unit a g u o) (group_len_of a.geometry g / 8) w.2 in
    let u : ℕ = v.0 in
    let both = and_parts (is_chunk a g u) (of_unit a g u o) v.2 in
    let x = which_below (λ i. inode_in a g u i == o) 64 both.1 in
    let i : ℕ = x.0 in
    let same : inode_in a g u i ≡ o = eqb-true (inode_in a g u i) o x.2 in
    let place : split_of a.geometry (o / 8) ≡ Some (g, 8 * u + i / 8) =
    ap (λ n. split_of a.geometry (n / 8)) (sym same)
    ∙ leads_back a.geometry g (8 * u + i / 8) (i % 8) fit (low_slot i) w.1 (inside_unit u i (group_len_of a.geometry g) v.1 x.1) in
    ap (in_chunk a) place ∙ ap (is_chunk a g) (its_unit u i x.1) ∙ both.0

in_whole_unit : (b len : ℕ) → 8 * (b / 8) + 7 < len → b / 8 < len / 8
in_whole_unit b len h = omega (arith, h)

its_block : (b o : ℕ) → 8 * (b / 8) + (8 * (b % 8) + o % 8) / 8 ≡ b
its_block b o = omega arith

its_slot : (b o : ℕ) → (8 * (b % 8) + o % 8) % 8 ≡ o % 8
its_slot b o = omega arith

few_slots : (b o : ℕ) → 8 * (b % 8) + o % 8 < 64
few_slots b o = omega arith

whole : (o : ℕ) → o / 8 * 8 + o % 8 ≡ o
whole o = omega arith

chunk_lies : (a : State) (g u : ℕ) → is_chunk a g u ≡ true → 8 * u + 7 < group_len_of a.geometry g
unfolding is_chunk is_listed has_unit
chunk_lies a g u h =
    let listed = and_parts (has_unit a.geometry g u && (ino_lists a g u || rmap_lists a g u)) (unit_verifies a.geometry a.core g u) h in
    let lies = and_parts (has_unit a.geometry g u) (ino_lists a g u || rmap_lists a g u) listed.0 in
    ltb-true (8 * u + 7) (group_len_of a.geometry g) (and_parts (nat_lt g a.geometry.agcount) (nat_lt (8 * u + 7) (group_len_of a.geometry g)) lies.0).1

at_place : (a : State) (o : ℕ) (place : Option (ℕ × ℕ)) → split_of a.geometry (o / 8) ≡ place → in_chunk a place ≡ true → list_any (λ g. of_group a g o) (numbers 0 a.geometry.agcount) ≡ true
at_place a o None e h = absurd (false≢true h)
at_place a o (Some p) e h =
    let g : ℕ = p.0 in
    let b : ℕ = p.1 in
    let i : ℕ = 8 * (b % 8) + o % 8 in
    let parts = split_parts a.geometry (o / 8) g b e in
    let number : inode_in a g (b / 8) i ≡ o =
    ap₂ (λ m s. inode_at a.geometry g m s) (its_block b o) (its_slot b o) ∙ ap (λ n. n * 8 + o % 8) parts.number ∙ whole o in
    found_below (λ n. of_group a n o) a.geometry.agcount g parts.group
    (found_below (λ u. is_chunk a g u && of_unit a g u o) (group_len_of a.geometry g / 8) (b / 8) (in_whole_unit b (group_len_of a.geometry g) (chunk_lies a g (b / 8) h))
    (ap₂ (λ x y. x && y) h (found_below (λ m. inode_in a g (b / 8) m == o) 64 i (few_slots b o) (eq-eqb (inode_in a g (b / 8) i) o number))))

is_listed_there : (a : State) (o : ℕ) → is_inode a o ≡ true → list_any (λ g. of_group a g o) (numbers 0 a.geometry.agcount) ≡ true
unfolding is_inode
is_listed_there a o h = at_place a o (split_of a.geometry (o / 8)) refl h

-- the inodes are those that stand in chunks
pub in_inodes : (a : State) (o : ℕ) → HasFitting a.geometry → list_any (λ n. n == o) (inodes a) ≡ is_inode a o
in_inodes a o fit = by_groups a o ∙ both_ways (list_any (λ g. of_group a g o) (numbers 0 a.geometry.agcount)) (is_inode a o) (is_there a o fit) (is_listed_there a o)

-- ---- claims of forks by inode

abbrev pub hasc : List Claimed → Tuple → Bool
hasc cs t = has (map tuple_of cs) t

pub hasc_any : (cs : List Claimed) (t : Tuple) → hasc cs t ≡ list_any (λ c. is_same t (tuple_of c)) cs
hasc_any cs t = any_map (is_same t) tuple_of cs

pub hasc_both : (cs ds : List Claimed) (t : Tuple) → hasc (cs ++ ds) t ≡ (hasc cs t || hasc ds t)
hasc_both cs ds t = hasc_any (cs ++ ds) t ∙ any_both (λ c. is_same t (tuple_of c)) cs ds ∙ ap₂ (λ x y. x || y) (sym (hasc_any cs t)) (sym (hasc_any ds t))

pub hasc_flat : {X : Type 0} (F : X → List Claimed) (xs : List X) (t : Tuple) → hasc (flat_map F xs) t ≡ list_any (λ x. hasc (F x) t) xs
hasc_flat F xs t = hasc_any (flat_map F xs) t ∙ any_flat (λ c. is_same t (tuple_of c)) F xs ∙ any_same _ (λ x. hasc (F x) t) xs (λ x. sym (hasc_any (F x) t))

middle_false : (x y z : Bool) → y ≡ false → (x && y && z) ≡ false
middle_false true true z h = absurd (true≢false h)
middle_false true false z h = refl
middle_false false y z h = refl

-- claims of an inode say that it is their owner
other_blocks : (c : Claim) (n b word k : ℕ) (t : Tuple) → (t.owner == n) ≡ false → hasc (mapped_blocks c n b word k) t ≡ false
other_blocks c n b word zero t h = refl
other_blocks c n b word (suc k) t h = ap₂ (λ x y. x || y) (middle_false (t.block == b) (t.owner == n) (t.word == word) h) (other_blocks c n (b + 1) (word + 1) k t h)

other_run : (g : ℕ) (c : Claim) (n flag : ℕ) (m : Mapping) (p : Option (ℕ × ℕ)) (t : Tuple) → (t.owner == n) ≡ false → hasc (blocks_at g c n flag m p) t ≡ false
other_run g c n flag m None t h = refl
other_run g c n flag m (Some p) t h = elim (p.0 == g) as (λ b. hasc (cond b (mapped_blocks c n p.1 (word_of flag m) m.count) []) t ≡ false) [
  | true ↦ other_blocks c n p.1 _ m.count t h
  | false ↦ refl
]

pub other_mappings : (at : Layout) (g : ℕ) (c : Claim) (n flag : ℕ) (ms : List Mapping) (t : Tuple) → (t.owner == n) ≡ false → hasc (mapping_claims at g c n flag ms) t ≡ false
other_mappings at g c n flag ms t h = hasc_flat (λ m. blocks_at g c n flag m (split_of at m.block)) ms t ∙ none_any _ ms (λ m. other_run g c n flag m (split_of at m.block) t h)

other_block : (g n flag : ℕ) (p : Option (ℕ × ℕ)) (t : Tuple) → (t.owner == n) ≡ false → hasc (tree_block_at g n flag p) t ≡ false
other_block g n flag None t h = refl
other_block g n flag (Some p) t h = elim (p.0 == g) as (λ b. hasc (only_if b (record { block = p.1; claim = ForkTree n; owner = n; word = 2 ^ 62 + flag })) t ≡ false) [
  | true ↦ ap (λ x. x || false) (middle_false (t.block == p.1) (t.owner == n) (t.word == 2 ^ 62 + flag) h)
  | false ↦ refl
]

pub other_tree : (at : Layout) (g n flag : ℕ) (bs : List TreeBlock) (t : Tuple) → (t.owner == n) ≡ false → hasc (fork_tree_claims at g n flag bs) t ≡ false
other_tree at g n flag bs t h = hasc_flat (λ b. tree_block_at g n flag (split_of at b.block)) bs t ∙ none_any _ bs (λ b. other_block g n flag (split_of at b.block) t h)

-- of a list of inodes the owner alone can have it
single : (D : ℕ → Bool) (o : ℕ) → ((n : ℕ) → (o == n) ≡ false → D n ≡ false) → (ns : List ℕ) → list_any D ns ≡ (list_any (λ n. n == o) ns && D o)
single D o other [] = refl
single D o other (n ∷ ns) = (elim (n == o) as (λ b. (n == o) ≡ b → (D n || list_any D ns) ≡ ((b || list_any (λ m. m == o) ns) && D o)) [
  | true ↦ λ e. ap (λ b. b || list_any D ns) (ap D (eqb-true n o e)) ∙ ap (λ b. D o || b) (single D o other ns) ∙ once (D o) (list_any (λ m. m == o) ns)
  | false ↦ λ e. ap (λ b. b || list_any D ns) (other n (turned n o e)) ∙ single D o other ns
]) refl
  where
    once : (d l : Bool) → (d || (l && d)) ≡ d
    once true l = refl
    once false true = refl
    once false false = refl

    turned : (n o : ℕ) → (n == o) ≡ false → (o == n) ≡ false
    turned n o h = grind (arith, nat_tests)

by_owner : (a : State) (t : Tuple) (F : ℕ → List Claimed) → HasFitting a.geometry → ((n : ℕ) → (t.owner == n) ≡ false → hasc (F n) t ≡ false) → hasc (flat_map F (inodes a)) t ≡ (is_inode a t.owner && hasc (F t.owner) t)
by_owner a t F fit other = hasc_flat F (inodes a) t ∙ single (λ n. hasc (F n) t) t.owner other (inodes a) ∙ ap (λ b. b && hasc (F t.owner) t) (in_inodes a t.owner fit)

gather : (i x y z : Bool) → (((i && x) || (i && y)) || (i && z)) ≡ (i && ((x || y) || z))
gather true x y z = refl
gather false x y z = refl

pub parts_of : (a : State) (g n : ℕ) (t : Tuple) → hasc (inode_claims a g n) t ≡ ((hasc (data_claims a g n) t || hasc (attribute_claims a g n) t) || hasc (tree_claims a g n) t)
parts_of a g n t = hasc_both (data_claims a g n ++ attribute_claims a g n) (tree_claims a g n) t ∙ ap (λ b. b || hasc (tree_claims a g n) t) (hasc_both (data_claims a g n) (attribute_claims a g n) t)

data_of_other : (a : State) (g n : ℕ) (t : Tuple) → (t.owner == n) ≡ false → hasc (data_claims a g n) t ≡ false
data_of_other a g n t h = other_mappings a.geometry g (Data n) n 0 (fork_of a n forks.Data).mappings t h

attributes_of_other : (a : State) (g n : ℕ) (t : Tuple) → (t.owner == n) ≡ false → hasc (attribute_claims a g n) t ≡ false
attributes_of_other a g n t h = other_mappings a.geometry g (Attr n) n attribute (fork_of a n forks.Attr).mappings t h

trees_of_other : (a : State) (g n : ℕ) (t : Tuple) → (t.owner == n) ≡ false → hasc (tree_claims a g n) t ≡ false
trees_of_other a g n t h =
    hasc_both (fork_tree_claims a.geometry g n 0 (fork_of a n forks.Data).blocks) (fork_tree_claims a.geometry g n attribute (fork_of a n forks.Attr).blocks) t
    ∙ ap₂ (λ x y. x || y) (other_tree a.geometry g n 0 (fork_of a n forks.Data).blocks t h) (other_tree a.geometry g n attribute (fork_of a n forks.Attr).blocks t h)

pub owners_by_inode : OwnersByInode
unfolding fork_claims
owners_by_inode a g t fit =
    hasc_both (flat_map (data_claims a g) (inodes a) ++ flat_map (attribute_claims a g) (inodes a)) (flat_map (tree_claims a g) (inodes a)) t
    ∙ ap (λ b. b || hasc (flat_map (tree_claims a g) (inodes a)) t) (hasc_both (flat_map (data_claims a g) (inodes a)) (flat_map (attribute_claims a g) (inodes a)) t)
    ∙ ap₂ (λ x y. x || y) (ap₂ (λ x y. x || y) (by_owner a t (data_claims a g) fit (λ n h. data_of_other a g n t h)) (by_owner a t (attribute_claims a g) fit (λ n h. attributes_of_other a g n t h)))
    (by_owner a t (tree_claims a g) fit (λ n h. trees_of_other a g n t h))
    ∙ gather (is_inode a t.owner) (hasc (data_claims a g t.owner) t) (hasc (attribute_claims a g t.owner) t) (hasc (tree_claims a g t.owner) t)
    ∙ ap (λ b. is_inode a t.owner && b) (sym (parts_of a g t.owner t))
