-- A piece of mappings more.
use Rattle.std.proofs.Common.{◌≡◌, ℕ, ◌+◌, ◌-◌, ◌&&◌, ◌||◌, zero, suc, Bool, true, false, cond, List, [], ◌∷◌, ◌++◌, map, filter, flat_map, take, drop, length, Some, refl, sym, ap, ap₂, ◌∙◌, arith}
use Rattle.std.specs.Prelude.{nat_lt, nat_le}
use Rattle.std.proofs.lemmas.Bool.Decides.{nat_tests}
use Rattle.dinode_core.specs.ForkTree.{TreeBlock}
use Rattle.dinode_core.specs.declared.mapping.Fork.TheVariants as forks
use Rattle.fs_model.specs.declared.claim.Claim.TheVariants.{Data, Attr}
use Rattle.geom.specs.Layout.{split_of}
use Rattle.rmap_recs.specs.Runs.{has}
use Rattle.rmap_recs.specs.declared.tuples.Tuple.{Tuple}
use Rattle.fs_state.specs.State.{State}
use Rattle.fs_state.specs.Claims.{Claimed, mapping_claims, blocks_at, fork_tree_claims, tree_block_at, fork_of, attribute}
use Rattle.fs_state.specs.Own.{tuple_of, set_of}
use Rattle.fs_change.proofs.Counted.{hasc, hasc_both}
use Rattle.fs_change.proofs.Sets.{one_set, has_set, has_both}
use Rattle.fs_change.specs.Chains.{settled_forks}
use Rattle.fs_change.specs.Laws.{PieceGives}
use Rattle.fs_change.specs.Scan.{visited, first_mappings, next_mappings, held_tuples, next_claims, shadow_of}

or_again : (a b c : Bool) → (a || (b || c)) ≡ ((a || b) || c)
or_again true b c = refl
or_again false b c = refl

zero_plus : (n : ℕ) → 0 + n ≡ n
zero_plus n = omega arith

suc_plus : (k n : ℕ) → suc k + n ≡ suc (k + n)
suc_plus k n = omega arith

take_none : {X : Type 0} (n : ℕ) → take {A = X} n [] ≡ []
take_none zero = refl
take_none (suc n) = refl

-- the first, and those behind them
taken : {X : Type 0} (f : X → List Claimed) (k n : ℕ) (xs : List X) (t : Tuple) → hasc (flat_map f (take (k + n) xs)) t ≡ (hasc (flat_map f (take k xs)) t || hasc (flat_map f (take n (drop k xs))) t)
taken f zero n xs t = ap (λ j. hasc (flat_map f (take j xs)) t) (zero_plus n)
taken f (suc k) n [] t = ap (λ j. hasc (flat_map f (take j [])) t) (suc_plus k n) ∙ sym (ap (λ ys. hasc (flat_map f ys) t) (take_none n))
taken f (suc k) n (x ∷ xs) t =
    ap (λ j. hasc (flat_map f (take j (x ∷ xs))) t) (suc_plus k n)
    ∙ hasc_both (f x) (flat_map f (take (k + n) xs)) t
    ∙ ap (λ b. hasc (f x) t || b) (taken f k n xs t)
    ∙ or_again (hasc (f x) t) (hasc (flat_map f (take k xs)) t) (hasc (flat_map f (take n (drop k xs))) t)
    ∙ ap (λ b. b || hasc (flat_map f (take n (drop k xs))) t) (sym (hasc_both (f x) (flat_map f (take k xs)) t))

-- those that pass one test or the other
spread_if : {X : Type 0} (f : X → List Claimed) (b : Bool) (x : X) (xs : List X) (t : Tuple) → hasc (flat_map f (cond b (x ∷ xs) xs)) t ≡ ((b && hasc (f x) t) || hasc (flat_map f xs) t)
spread_if f true x xs t = hasc_both (f x) (flat_map f xs) t
spread_if f false x xs t = refl

either_one : (q r f x y : Bool) → (((q || r) && f) || (x || y)) ≡ (((q && f) || x) || ((r && f) || y))
either_one true r true x y = refl
either_one true true false x y = refl
either_one true false false x y = refl
either_one false true true true y = refl
either_one false true true false y = refl
either_one false true false x y = refl
either_one false false f x y = refl

passed : {X : Type 0} (f : X → List Claimed) (p q r : X → Bool) (same : (x : X) → p x ≡ (q x || r x)) (xs : List X) (t : Tuple) → hasc (flat_map f (filter p xs)) t ≡ (hasc (flat_map f (filter q xs)) t || hasc (flat_map f (filter r xs)) t)
passed f p q r same [] t = refl
passed f p q r same (x ∷ xs) t =
    spread_if f (p x) x (filter p xs) t
    ∙ ap₂ (λ a b. (a && hasc (f x) t) || b) (same x) (passed f p q r same xs t)
    ∙ either_one (q x) (r x) (hasc (f x) t) (hasc (flat_map f (filter q xs)) t) (hasc (flat_map f (filter r xs)) t)
    ∙ sym (ap₂ (λ a b. a || b) (spread_if f (q x) x (filter q xs) t) (spread_if f (r x) x (filter r xs) t))

before_or_among : (b k n : ℕ) → nat_lt b (k + n) ≡ (nat_lt b k || (nat_le k b && nat_lt b (k + n)))
before_or_among b k n = grind (arith, nat_tests)

in_pairs : (x y z w : Bool) → ((x || y) || (z || w)) ≡ ((x || z) || (y || w))
in_pairs true y z w = refl
in_pairs false true true w = refl
in_pairs false true false w = refl
in_pairs false false z w = refl

reaches : (k n d : ℕ) → (k - d) + ((k + n - d) - (k - d)) ≡ k + n - d
reaches k n d = omega arith

module _ (a : State) (g ino k n : ℕ) (t : Tuple) where
  abbrev behind : ℕ
  behind = length (fork_of a ino forks.Data).mappings

  abbrev more : ℕ
  more = (k + n - behind) - (k - behind)

  data_more : hasc (mapping_claims a.geometry g (Data ino) ino 0 (first_mappings (k + n) (fork_of a ino forks.Data)).mappings) t
      ≡ (hasc (mapping_claims a.geometry g (Data ino) ino 0 (first_mappings k (fork_of a ino forks.Data)).mappings) t || hasc (mapping_claims a.geometry g (Data ino) ino 0 (next_mappings k n (fork_of a ino forks.Data)).mappings) t)
  data_more = taken (λ m. blocks_at g (Data ino) ino 0 m (split_of a.geometry m.block)) k n (fork_of a ino forks.Data).mappings t

  attr_more : hasc (mapping_claims a.geometry g (Attr ino) ino attribute (first_mappings (k + n - behind) (fork_of a ino forks.Attr)).mappings) t
      ≡ (hasc (mapping_claims a.geometry g (Attr ino) ino attribute (first_mappings (k - behind) (fork_of a ino forks.Attr)).mappings) t || hasc (mapping_claims a.geometry g (Attr ino) ino attribute (next_mappings (k - behind) more (fork_of a ino forks.Attr)).mappings) t)
  attr_more =
      ap (λ j. hasc (mapping_claims a.geometry g (Attr ino) ino attribute (take j (fork_of a ino forks.Attr).mappings)) t) (sym (reaches k n behind))
      ∙ taken (λ m. blocks_at g (Attr ino) ino attribute m (split_of a.geometry m.block)) (k - behind) more (fork_of a ino forks.Attr).mappings t

  data_blocks : hasc (fork_tree_claims a.geometry g ino 0 (first_mappings (k + n) (fork_of a ino forks.Data)).blocks) t
      ≡ (hasc (fork_tree_claims a.geometry g ino 0 (first_mappings k (fork_of a ino forks.Data)).blocks) t || hasc (fork_tree_claims a.geometry g ino 0 (next_mappings k n (fork_of a ino forks.Data)).blocks) t)
  data_blocks =
      passed (λ (b : TreeBlock). tree_block_at g ino 0 (split_of a.geometry b.block)) (λ b. nat_lt b.before (k + n)) (λ b. nat_lt b.before k) (λ b. nat_le k b.before && nat_lt b.before (k + n)) (λ b. before_or_among b.before k n) (fork_of a ino forks.Data).blocks t

  attr_blocks : hasc (fork_tree_claims a.geometry g ino attribute (first_mappings (k + n - behind) (fork_of a ino forks.Attr)).blocks) t
      ≡ (hasc (fork_tree_claims a.geometry g ino attribute (first_mappings (k - behind) (fork_of a ino forks.Attr)).blocks) t || hasc (fork_tree_claims a.geometry g ino attribute (next_mappings (k - behind) more (fork_of a ino forks.Attr)).blocks) t)
  attr_blocks =
      ap (λ j. hasc (fork_tree_claims a.geometry g ino attribute (filter (λ b. nat_lt b.before j) (fork_of a ino forks.Attr).blocks)) t) (sym (reaches k n behind))
      ∙ passed (λ (b : TreeBlock). tree_block_at g ino attribute (split_of a.geometry b.block)) (λ b. nat_lt b.before ((k - behind) + more)) (λ b. nat_lt b.before (k - behind)) (λ b. nat_le (k - behind) b.before && nat_lt b.before ((k - behind) + more)) (λ b. before_or_among b.before (k - behind) more) (fork_of a ino forks.Attr).blocks t

  four : (ds es bs cs : List Claimed) → hasc (ds ++ es ++ bs ++ cs) t ≡ (((hasc ds t || hasc es t) || hasc bs t) || hasc cs t)
  four ds es bs cs =
      hasc_both ((ds ++ es) ++ bs) cs t
      ∙ ap (λ x. x || hasc cs t) (hasc_both (ds ++ es) bs t ∙ ap (λ x. x || hasc bs t) (hasc_both ds es t))

  held_more : has (held_tuples a g (Some ino) (k + n)) t ≡ (has (held_tuples a g (Some ino) k) t || has (map tuple_of (next_claims a g ino k n)) t)
  held_more =
      let d : List Claimed = mapping_claims a.geometry g (Data ino) ino 0 (first_mappings k (fork_of a ino forks.Data)).mappings in
      let d1 : List Claimed = mapping_claims a.geometry g (Data ino) ino 0 (next_mappings k n (fork_of a ino forks.Data)).mappings in
      let e : List Claimed = mapping_claims a.geometry g (Attr ino) ino attribute (first_mappings (k - behind) (fork_of a ino forks.Attr)).mappings in
      let e1 : List Claimed = mapping_claims a.geometry g (Attr ino) ino attribute (next_mappings (k - behind) more (fork_of a ino forks.Attr)).mappings in
      let b : List Claimed = fork_tree_claims a.geometry g ino 0 (first_mappings k (fork_of a ino forks.Data)).blocks in
      let b1 : List Claimed = fork_tree_claims a.geometry g ino 0 (next_mappings k n (fork_of a ino forks.Data)).blocks in
      let c : List Claimed = fork_tree_claims a.geometry g ino attribute (first_mappings (k - behind) (fork_of a ino forks.Attr)).blocks in
      let c1 : List Claimed = fork_tree_claims a.geometry g ino attribute (next_mappings (k - behind) more (fork_of a ino forks.Attr)).blocks in
      four (mapping_claims a.geometry g (Data ino) ino 0 (first_mappings (k + n) (fork_of a ino forks.Data)).mappings) (mapping_claims a.geometry g (Attr ino) ino attribute (first_mappings (k + n - behind) (fork_of a ino forks.Attr)).mappings)
      (fork_tree_claims a.geometry g ino 0 (first_mappings (k + n) (fork_of a ino forks.Data)).blocks) (fork_tree_claims a.geometry g ino attribute (first_mappings (k + n - behind) (fork_of a ino forks.Attr)).blocks)
      ∙ ap₂ (λ x y. x || y) (ap₂ (λ x y. x || y) (ap₂ (λ x y. x || y) data_more attr_more) data_blocks) attr_blocks
      ∙ ap (λ x. (x || (hasc b t || hasc b1 t)) || (hasc c t || hasc c1 t)) (in_pairs (hasc d t) (hasc d1 t) (hasc e t) (hasc e1 t))
      ∙ ap (λ x. x || (hasc c t || hasc c1 t)) (in_pairs (hasc d t || hasc e t) (hasc d1 t || hasc e1 t) (hasc b t) (hasc b1 t))
      ∙ in_pairs ((hasc d t || hasc e t) || hasc b t) ((hasc d1 t || hasc e1 t) || hasc b1 t) (hasc c t) (hasc c1 t)
      ∙ sym (ap₂ (λ x y. x || y) (four d e b c) (four d1 e1 b1 c1))

pub piece_gives : PieceGives
unfolding shadow_of
piece_gives a g c ino k n =
    let seen : List Tuple = filter (λ t. visited c t.owner) (settled_forks a g) in
    let next : List Tuple = map tuple_of (next_claims a g ino k n) in
    one_set (seen ++ held_tuples a g (Some ino) (k + n)) (set_of (seen ++ held_tuples a g (Some ino) k) ++ next) (λ t.
    has_both seen (held_tuples a g (Some ino) (k + n)) t
    ∙ ap (λ b. has seen t || b) (held_more a g ino k n t)
    ∙ or_again (has seen t) (has (held_tuples a g (Some ino) k) t) (has next t)
    ∙ ap (λ b. b || has next t) (sym (has_set (seen ++ held_tuples a g (Some ino) k) t ∙ has_both seen (held_tuples a g (Some ino) k) t))
    ∙ sym (has_both (set_of (seen ++ held_tuples a g (Some ino) k)) next t))
