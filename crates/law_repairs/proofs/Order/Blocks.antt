-- The blocks of a group's list, trees and limbo are each there once: no block of metadata has a second claim.
use Rattle.std.proofs.Common.{◌≡◌, ℕ, ◌+◌, ◌<◌, ◌≤◌, ◌^◌, true, List, [], ◌∷◌, ◌++◌, length, map, flat_map, refl, ap, sym, subst, ◌∙◌, inl, inr, arith, append_assoc}
use Rattle.std.specs.Prelude.{◌⊎◌}
use Rattle.std.proofs.lemmas.Bool.{cases_lt}
use Rattle.std.proofs.lemmas.List.{append-nil}
use Rattle.fs_change.specs.Loose.{pool_of, tree_blocks}
use Rattle.fs_state.specs.Records.{all_kinds}
use Rattle.fs_state.specs.Apart.{Apart, Has, HeadsOf, InOwned, LimboOf, ListOf, LogPart, Part, ReserveOf, TreeOf, ChunkAt, ForkTreeOf}
use Rattle.fs_state.specs.Frame.{Firm}
use Rattle.fs_state.specs.Kinds.{Image, heads_in}
use Rattle.fs_state.specs.Pool.{Share, ShareOf, total}
use Rattle.fs_state.specs.Read.{group_of, state_of}
use Rattle.fs_state.specs.State.{Group, Kept, Owned, State, blocks_in, is_readable}
use Rattle.geom.specs.Apart.{HasFitting}
use Rattle.geom.specs.Layout.{Layout, device_block_of, group_len_of}
use Rattle.law_repairs.proofs.Move.Space.{short_group}
use Rattle.sblock.specs.declared.kind.Kind.{Kind}
use Rattle.sblock.specs.declared.kind.Kind.TheVariants.{Bno, Cnt, Rmap, Refc, Ino, Fino}
use Rattle.tree_defs.proofs.Counts.{AllBetween, fewer, times_append}
use Rattle.tree_defs.proofs.SiteLemmas.{has_first}
use Rattle.tree_defs.specs.Lists.{AllDiffer, In, times}
use Rattle.law_repairs.specs.Order.Kept.{KeptInOrder, LieBelow, ListIsAccepted}
use Rattle.law_repairs.specs.Order.Ordered.{BlocksAreOnce}
use Rattle.law_repairs.proofs.Order.Readings.{accepted, known_below, known_once, known_root}
use Rattle.law_repairs.proofs.Order.Lists.{at_place, pairs_differ, times_in}

-- ---- the shares of a pool

abbrev number_of_kind : Kind → ℕ
number_of_kind Bno = 0
number_of_kind Cnt = 1
number_of_kind Rmap = 2
number_of_kind Refc = 3
number_of_kind Ino = 4
number_of_kind Fino = 5

-- parts by numbers, those of other sorts by 0
abbrev pub rank : Part → ℕ
rank (ListOf g) = 1
rank (TreeOf g k) = 2 + number_of_kind k
rank (LimboOf g) = 8
rank (HeadsOf g) = 0
rank LogPart = 0
rank (ReserveOf g) = 9
rank (ChunkAt d) = 0
rank (ForkTreeOf ino f) = 0

-- the parts are of these sorts, one after the other
abbrev pub Ranked : ℕ → List Share → Type 0
Ranked n [] = Unit {0}
Ranked n (s ∷ ss) = (rank s.0 ≡ n) × Ranked (n + 1) ss

later : (n : ℕ) (ss : List Share) → Ranked n ss → (c : Part) (p : ℕ) → ShareOf ss c p → n ≤ rank c
later n [] r c p i = absurd i
later n (s ∷ ss) r c p (inl i) = let at = r.0 in let same = ap rank i.0 in omega (arith, at, same)
later n (s ∷ ss) r c p (inr i) = let more = later (n + 1) ss r.1 c p i in omega (arith, more)

pub in_cases : (p : ℕ) (xs ys : List ℕ) → In p (xs ++ ys) → (In p xs) ⊎ (In p ys)
in_cases p [] ys i = inr i
in_cases p (x ∷ xs) ys (inl e) = inl (inl e)
in_cases p (x ∷ xs) ys (inr i) = elim (in_cases p xs ys i) [ inl j ↦ inl (inr j) | inr j ↦ inr j ]

share_from : (ss : List Share) (p : ℕ) → In p (total ss) → (c : Part) × ShareOf ss c p
share_from [] p i = absurd i
share_from (s ∷ ss) p i = elim (in_cases p s.1 (total ss) i) [
  | inl j ↦ (s.0, inl (refl, j))
  | inr j ↦ let r = share_from ss p j in (r.0, inr r.1)
]

-- what a part has of a group: each block once, inside the group, and as a claim of its own
pub record IsPartOf (a : State) (g : ℕ) (c : Part) (blocks : List ℕ) : Type 0 where
  pub once : AllDiffer blocks
  pub inside : LieBelow (group_len_of a.geometry g) blocks
  pub has : (p : ℕ) → In p blocks → Has a c (device_block_of a.geometry g p)

abbrev pub AreParts : State → ℕ → List Share → Type 0
AreParts a g [] = Unit {0}
AreParts a g (s ∷ ss) = IsPartOf a g s.0 s.1 × AreParts a g ss

module _ (a : State) (g : ℕ) where
  has_share : (ss : List Share) → AreParts a g ss → (c : Part) (p : ℕ) → ShareOf ss c p → Has a c (device_block_of a.geometry g p) × (p < group_len_of a.geometry g)
  has_share [] h c p i = absurd i
  has_share (s ∷ ss) h c p (inl i) = (subst (λ (e : Part). Has a e (device_block_of a.geometry g p)) i.0 (h.0.has p i.1), h.0.inside p i.1)
  has_share (s ∷ ss) h c p (inr i) = has_share ss h.1 c p i

  -- none has a block of another
  once_in : Apart a → (n : ℕ) (ss : List Share) → Ranked n ss → AreParts a g ss → (p : ℕ) → times p (total ss) ≤ 1
  once_in apart n [] r h p = omega arith
  once_in apart n (s ∷ ss) r h p =
      let sum = times_append p s.1 (total ss) in
      let one = h.0.once p in
      let rest = once_in apart (n + 1) ss r.1 h.1 p in
      elim (cases_lt (times p s.1) 1) [
        | inl none ↦ omega (arith, sum, none, rest)
        | inr some ↦ elim (cases_lt (times p (total ss)) 1) [
          | inl none ↦ omega (arith, sum, none, one)
          | inr more ↦
              let other = share_from ss p (times_in p (total ss) more) in
              let same : s.0 ≡ other.0 = apart s.0 other.0 (device_block_of a.geometry g p) (h.0.has p (times_in p s.1 some)) (has_share ss h.1 other.0 p other.1).0 in
              let behind = later (n + 1) ss r.1 other.0 p other.1 in
              let at = r.0 in
              let ranks = ap rank same in
              absurd (omega (arith, behind, at, ranks))
        ]
      ]

  -- nor block 0, which the heads have
  between_in : Apart a → g < a.geometry.agcount → (n : ℕ) (ss : List Share) → 1 ≤ n → Ranked n ss → AreParts a g ss → (ps : List ℕ) → ((p : ℕ) → In p ps → In p (total ss)) → AllBetween (group_len_of a.geometry g) ps
  between_in apart lt n ss some r h [] there = tt
  between_in apart lt n ss some r h (p ∷ ps) there =
      let share = share_from ss p (there p (inl refl)) in
      let found = has_share ss h share.0 p share.1 in (
        elim (cases_lt p 1) [
          | inl none ↦
              let zero_is : 0 ≡ p = omega (arith, none) in
              let heads : Has a (HeadsOf g) (device_block_of a.geometry g p) = record { inside = lt; block = 0; holds = refl; place = ap (device_block_of a.geometry g) zero_is } in
              let same : HeadsOf g ≡ share.0 = apart (HeadsOf g) share.0 (device_block_of a.geometry g p) heads found.0 in
              let behind = later n ss r share.0 p share.1 in
              let ranks = ap rank same in
              absurd (omega (arith, behind, some, ranks))
          | inr one ↦ one
        ],
        found.1,
        between_in apart lt n ss some r h ps (λ q i. there q (inr i)),
      )

-- ---- list, trees and limbo, and the rest

abbrev pub shares : ℕ → Group → List Share → List Share
shares g p rest = (ListOf g, p.free_list) ∷ (map (λ (k : Kind). (TreeOf g k, tree_blocks p k)) all_kinds ++ ((LimboOf g, blocks_in p.limbo) ∷ rest))

trees_total : (g : ℕ) (f : Kind → List ℕ) (ks : List Kind) (rest : List Share) → total (map (λ (k : Kind). (TreeOf g k, f k)) ks ++ rest) ≡ flat_map f ks ++ total rest
trees_total g f [] rest = refl
trees_total g f (k ∷ ks) rest = ap (λ (xs : List ℕ). f k ++ xs) (trees_total g f ks rest) ∙ sym (append_assoc (f k) (flat_map f ks) (total rest))

pub pool_is : (g : ℕ) (p : Group) (rest : List Share) → total (shares g p rest) ≡ pool_of p ++ total rest
pool_is g p rest =
    ap (λ (xs : List ℕ). p.free_list ++ xs) (trees_total g (tree_blocks p) all_kinds ((LimboOf g, blocks_in p.limbo) ∷ rest) ∙ sym (append_assoc (flat_map (tree_blocks p) all_kinds) (blocks_in p.limbo) (total rest)))
    ∙ (sym (append_assoc p.free_list (flat_map (tree_blocks p) all_kinds ++ blocks_in p.limbo) (total rest)) ∙ ap (λ (xs : List ℕ). xs ++ total rest) (sym (append_assoc p.free_list (flat_map (tree_blocks p) all_kinds) (blocks_in p.limbo))))

pub in_owned : (p : ℕ) (os : List Owned) → In p (blocks_in os) → InOwned p os
in_owned p [] i = absurd i
in_owned p (o ∷ os) (inl e) = inl e
in_owned p (o ∷ os) (inr i) = inr (in_owned p os i)

-- in any state whose parts are known
pub record HasParts (a : State) (g : ℕ) : Type 0 where
  pub list : IsPartOf a g (ListOf g) (a.group g).free_list
  pub trees : (k : Kind) → IsPartOf a g (TreeOf g k) (tree_blocks (a.group g) k)
  pub limbo : IsPartOf a g (LimboOf g) (blocks_in (a.group g).limbo)

module _ (a : State) (g : ℕ) (apart : Apart a) (has : HasParts a g) where
  are_parts : (rest : List Share) → AreParts a g rest → AreParts a g (shares g (a.group g) rest)
  are_parts rest more = (has.list, (has.trees Bno, (has.trees Cnt, (has.trees Rmap, (has.trees Refc, (has.trees Ino, (has.trees Fino, (has.limbo, more))))))))

  are_ranked : (rest : List Share) → Ranked 9 rest → Ranked 1 (shares g (a.group g) rest)
  are_ranked rest more = (refl, (refl, (refl, (refl, (refl, (refl, (refl, (refl, more))))))))

  pub once_with : (rest : List Share) → Ranked 9 rest → AreParts a g rest → AllDiffer (pool_of (a.group g) ++ total rest)
  once_with rest ranked more = subst (λ (xs : List ℕ). AllDiffer xs) (pool_is g (a.group g) rest) (once_in a g apart 1 (shares g (a.group g) rest) (are_ranked rest ranked) (are_parts rest more))

  pub pool_once : AllDiffer (pool_of (a.group g))
  pool_once = subst (λ (xs : List ℕ). AllDiffer xs) (append-nil (pool_of (a.group g))) (once_with [] tt tt)

  pub pool_few : HasFitting a.geometry → g < a.geometry.agcount → length (pool_of (a.group g)) < 2 ^ 32
  pool_few fit lt =
      let there : (q : ℕ) → In q (pool_of (a.group g)) → In q (total (shares g (a.group g) [])) = λ q i. subst (λ (xs : List ℕ). In q xs) (sym (pool_is g (a.group g) [] ∙ append-nil (pool_of (a.group g)))) i in
      let between = between_in a g apart lt 1 (shares g (a.group g) []) (omega arith) (are_ranked [] tt) (are_parts [] tt) (pool_of (a.group g)) there in
      let first = has_first a.geometry.agblocks a.geometry.agcount a.geometry.dblocks g lt fit.long_groups fit.last_long in
      let few = fewer (group_len_of a.geometry g) (pool_of (a.group g)) first between pool_once in
      let short = short_group a.geometry g fit in
      omega (arith, few, short)

-- ---- of an image

pub image_parts : (at : Layout) (image : Image) (kept : Kept) (g : ℕ) → HasFitting at → g < at.agcount → Firm at image kept → KeptInOrder at kept g → ListIsAccepted at image g → HasParts (state_of at image kept) g
unfolding group_of heads_in
image_parts at image kept g fit lt firm order list =
    let free = accepted at image g list in
    record {
      list = record {
        once = pairs_differ ((state_of at image kept).group g).free_list free.distinct;
        inside = λ p i. (at_place (λ (b : ℕ). (1 ≤ b) × (b < group_len_of at g)) ((state_of at image kept).group g).free_list free.inside p i).1;
        has = λ p i. record { inside = lt; block = p; holds = i; place = refl };
      };
      trees = λ k. record {
        once = known_once at image kept g k fit (firm.keeps g k lt) (order.claims_once k);
        inside = known_below at image kept g k (firm.keeps g k lt) (order.claims_inside k);
        has = λ p i. record { inside = lt; block = p; holds = i; place = refl };
      };
      limbo = record {
        once = order.limbo_once;
        inside = order.limbo_inside;
        has = λ p i. record { inside = lt; block = p; holds = in_owned p ((state_of at image kept).group g).limbo i; place = refl };
      };
    }

image_roots : (at : Layout) (image : Image) (kept : Kept) (g : ℕ) (k : Kind) → is_readable (((state_of at image kept).group g).tree k).reading ≡ true → 0 < length (tree_blocks ((state_of at image kept).group g) k)
unfolding group_of
image_roots at image kept g k h = known_root at image kept g k h

pub blocks_are_once : BlocksAreOnce
blocks_are_once at image kept g fit lt firm order list =
    let parts = image_parts at image kept g fit lt firm order list in
    record {
      once = pool_once (state_of at image kept) g firm.apart parts;
      few = pool_few (state_of at image kept) g firm.apart parts fit lt;
      roots = image_roots at image kept g;
    }
