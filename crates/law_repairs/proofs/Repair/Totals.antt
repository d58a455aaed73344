-- Sums over claims, and what they say of a block: whether its claims are clear, and who owns it.
use Rattle.std.proofs.Common.{◌≡◌, ℕ, zero, suc, ◌+◌, ◌*◌, ◌<◌, ◌≤◌, ◌==◌, ◌&&◌, ◌||◌, Bool, true, false, cond, not, List, [], ◌∷◌, ◌++◌, map, filter, flat_map, refl, ap, sym, ◌∙◌, inl, inr, arith, eq-eqb, Option, Some, None}
use Rattle.std.specs.Prelude.{nat_lt, if◌then◌else◌}
use Rattle.std.specs.List.{list_any}
use Rattle.std.proofs.lemmas.Bool.{cases_order, lt-ltb, true≢false}
use Rattle.fs_state.specs.Claims.{Claimed, claimed_by, log_claims, metadata_claims, fork_claims, claims}
use Rattle.fs_state.specs.Chunks.{chunks}
use Rattle.fs_state.specs.Contradiction.{first_overlap, is_written_data, overlap_in}
use Rattle.fs_state.specs.Records.{all_kinds, tree_owner}
use Rattle.fs_state.specs.Lists.{first_of_all, numbers}
use Rattle.fs_state.specs.Own.{tuple_of}
use Rattle.fs_model.specs.declared.claim.Claim.TheVariants.{Heads, List as FreeList, Tree, Reserve, Limbo, Chunk}
use Rattle.fs_model.specs.declared.claim.Evidence.{Evidence}
use Rattle.fs_model.specs.declared.claim.Evidence.TheVariants.{Overlap}
use Rattle.fs_state.specs.State.{State, Group, Owned, blocks_of, comes_first, pairs_of, put_pair}
use Rattle.geom.specs.Layout.{Layout, group_len_of}
use Rattle.rmap_recs.specs.Owners.{number_of}
use Rattle.rmap_recs.specs.Runs.{has, is_same}
use Rattle.rmap_recs.specs.declared.owner.Owner.TheVariants.{Fs, Ag, Inodes}
use Rattle.rmap_recs.specs.declared.tuples.Tuple.{Tuple}
use Rattle.sblock.specs.declared.kind.Kind.{Kind}
use Rattle.tree_defs.specs.Lists.{In}

-- ---- sums over a list

abbrev pub weigh : {X : Type 0} → (X → ℕ) → List X → ℕ
weigh f [] = 0
weigh f (x ∷ xs) = f x + weigh f xs

more_left : (a b c : ℕ) → a + (b + c) ≡ a + b + c
more_left a b c = omega arith

pub weigh_both : {X : Type 0} (f : X → ℕ) (xs ys : List X) → weigh f (xs ++ ys) ≡ weigh f xs + weigh f ys
weigh_both f [] ys = refl_zero (weigh f ys)
  where
    refl_zero : (n : ℕ) → n ≡ 0 + n
    refl_zero n = omega arith
weigh_both f (x ∷ xs) ys = ap (λ (n : ℕ). f x + n) (weigh_both f xs ys) ∙ more_left (f x) (weigh f xs) (weigh f ys)

pub weigh_map : {X Y : Type 0} (f : Y → ℕ) (h : X → Y) (xs : List X) → weigh f (map h xs) ≡ weigh (λ x. f (h x)) xs
weigh_map f h [] = refl
weigh_map f h (x ∷ xs) = ap (λ (n : ℕ). f (h x) + n) (weigh_map f h xs)

pub weigh_filter : {X : Type 0} (f : X → ℕ) (p : X → Bool) (xs : List X) → weigh f (filter p xs) ≡ weigh (λ x. if p x then f x else 0) xs
weigh_filter f p [] = refl
weigh_filter f p (x ∷ xs) = by (p x) (weigh_filter f p xs)
  where
    by : (k : Bool) → weigh f (filter p xs) ≡ weigh (λ y. if p y then f y else 0) xs → weigh f (cond k (x ∷ filter p xs) (filter p xs)) ≡ (if k then f x else 0) + weigh (λ y. if p y then f y else 0) xs
    by true h = ap (λ (n : ℕ). f x + n) h
    by false h = h ∙ zero_more (weigh (λ y. if p y then f y else 0) xs)
      where
        zero_more : (n : ℕ) → n ≡ 0 + n
        zero_more n = omega arith

-- ---- a set of pairs

no_less : (a b : ℕ) → nat_lt a b ≡ false → nat_lt b a ≡ false → a ≡ b
no_less a b h i = elim (cases_order a b) [
  | inl e ↦ e
  | inr (inl l) ↦ absurd (true≢false (sym (lt-ltb a b l) ∙ h))
  | inr (inr l) ↦ absurd (true≢false (sym (lt-ltb b a l) ∙ i))
]

or_left : (a b : Bool) → (a || b) ≡ false → a ≡ false
or_left true b h = h
or_left false b h = refl

or_right : (a b : Bool) → (a || b) ≡ false → b ≡ false
or_right true b h = absurd (true≢false h)
or_right false b h = h

and_right : (a b : Bool) → a ≡ true → (a && b) ≡ false → b ≡ false
and_right true b h i = i
and_right false b h i = absurd (true≢false (sym h))

same_pair : (f : Owned → ℕ) (o p : Owned) → comes_first o p ≡ false → comes_first p o ≡ false → f o ≡ f p
same_pair f o p h i =
    let blocks : o.block ≡ p.block = no_less o.block p.block (or_left (nat_lt o.block p.block) (o.block == p.block && nat_lt o.owner p.owner) h) (or_left (nat_lt p.block o.block) (p.block == o.block && nat_lt p.owner o.owner) i) in
    let owners : o.owner ≡ p.owner = no_less o.owner p.owner
    (and_right (o.block == p.block) (nat_lt o.owner p.owner) (eq-eqb o.block p.block blocks) (or_right (nat_lt o.block p.block) (o.block == p.block && nat_lt o.owner p.owner) h))
    (and_right (p.block == o.block) (nat_lt p.owner o.owner) (eq-eqb p.block o.block (sym blocks)) (or_right (nat_lt p.block o.block) (p.block == o.block && nat_lt p.owner o.owner) i)) in
    λ j. f (record { block = blocks j; owner = owners j })

module _ (f : Owned → ℕ) where
  -- a pair that is put in adds its weight, or stands there already
  abbrev PutIn : Owned → List Owned → List Owned → Type 0
  PutIn o ps qs = (weigh f qs ≤ f o + weigh f ps) × (1 ≤ f o + weigh f ps → 1 ≤ weigh f qs)

  exact : (o : Owned) (ps qs : List Owned) → weigh f qs ≡ f o + weigh f ps → PutIn o ps qs
  exact o ps qs e = (omega (arith, e), λ h. omega (arith, e, h))

  put_weight : (o : Owned) (ps : List Owned) → PutIn o ps (put_pair o ps)
  put_weight o [] = exact o [] (o ∷ []) refl
  put_weight o (p ∷ ps) = (elim (comes_first o p) as (λ b. comes_first o p ≡ b → PutIn o (p ∷ ps) (cond b (o ∷ p ∷ ps) (cond (comes_first p o) (p ∷ put_pair o ps) (p ∷ ps)))) [
    | true ↦ λ h. exact o (p ∷ ps) (o ∷ p ∷ ps) refl
    | false ↦ λ h. (elim (comes_first p o) as (λ b. comes_first p o ≡ b → PutIn o (p ∷ ps) (cond b (p ∷ put_pair o ps) (p ∷ ps))) [
      | true ↦ λ i. behind (f o) (f p) (weigh f ps) (weigh f (put_pair o ps)) (put_weight o ps)
      | false ↦ λ i. twice (f o) (f p) (weigh f ps) (same_pair f o p h i)
    ]) refl
  ]) refl
    where
      behind : (x y n m : ℕ) → (m ≤ x + n) × (1 ≤ x + n → 1 ≤ m) → (y + m ≤ x + (y + n)) × (1 ≤ x + (y + n) → 1 ≤ y + m)
      behind x y n m h = (
        let le = h.0 in omega (arith, le),
        λ i. elim (cases_order y 0) [
          | inl e ↦ let k : 1 ≤ x + n = omega (arith, i, e) in let r = h.1 k in omega (arith, r)
          | inr (inl l) ↦ absurd (omega (arith, l))
          | inr (inr l) ↦ omega (arith, l)
        ],
      )

      twice : (x y n : ℕ) → x ≡ y → (y + n ≤ x + (y + n)) × (1 ≤ x + (y + n) → 1 ≤ y + n)
      twice x y n e = (omega arith, λ i. omega (arith, i, e))

  pub pairs_weight : (os : List Owned) → (weigh f (pairs_of os) ≤ weigh f os) × (1 ≤ weigh f os → 1 ≤ weigh f (pairs_of os))
  pairs_weight [] = (omega arith, λ h. h)
  pairs_weight (o ∷ os) = then_put (f o) (weigh f os) (weigh f (pairs_of os)) (weigh f (put_pair o (pairs_of os))) (pairs_weight os) (put_weight o (pairs_of os))
    where
      then_put : (x n m k : ℕ) → (m ≤ n) × (1 ≤ n → 1 ≤ m) → (k ≤ x + m) × (1 ≤ x + m → 1 ≤ k) → (k ≤ x + n) × (1 ≤ x + n → 1 ≤ k)
      then_put x n m k h i = (
        let a = h.0 in let b = i.0 in omega (arith, a, b),
        λ j. elim (cases_order n 0) [
          | inl e ↦ i.1 (omega (arith, j, e))
          | inr (inl l) ↦ absurd (omega (arith, l))
          | inr (inr l) ↦ let r = h.1 (omega (arith, l)) in i.1 (omega (arith, r))
        ],
      )

-- ---- the parts of a group's metadata

abbrev pub tree_part : Group → Kind → List Claimed
tree_part p k = map (claimed_by (Tree k) (tree_owner k)) (blocks_of (p.tree k).reading)

abbrev pub chunk_part : List ℕ → List Claimed
chunk_part us = flat_map (λ u. map (claimed_by Chunk (number_of Inodes)) (numbers (8 * u) 8)) us

abbrev pub parts : Layout → ℕ → Group → List ℕ → List Claimed
parts at g p us =
    claimed_by Heads (number_of Fs) 0 ∷ log_claims at.log g
    ++ map (claimed_by FreeList (number_of Ag)) p.free_list
    ++ flat_map (tree_part p) all_kinds
    ++ map (λ (o : Owned). claimed_by Reserve o.owner o.block) p.reserve
    ++ map (λ (o : Owned). claimed_by Limbo o.owner o.block) p.limbo
    ++ chunk_part us

abbrev pub front_part : Layout → ℕ → List Claimed
front_part at g = claimed_by Heads (number_of Fs) 0 ∷ log_claims at.log g

module _ (w : Claimed → ℕ) where
  abbrev pub reserved_weight : Owned → ℕ
  reserved_weight o = w (claimed_by Reserve o.owner o.block)

  abbrev pub limbo_weight : Owned → ℕ
  limbo_weight o = w (claimed_by Limbo o.owner o.block)

  pub parts_weight : (at : Layout) (g : ℕ) (p : Group) (us : List ℕ)
      → weigh w (parts at g p us) ≡ weigh w (front_part at g) + weigh w (map (claimed_by FreeList (number_of Ag)) p.free_list) + weigh w (flat_map (tree_part p) all_kinds) + weigh reserved_weight p.reserve + weigh limbo_weight p.limbo + weigh w (chunk_part us)
  parts_weight at g p us =
      let list : List Claimed = map (claimed_by FreeList (number_of Ag)) p.free_list in
      let trees : List Claimed = flat_map (tree_part p) all_kinds in
      let reserve : List Claimed = map (λ (o : Owned). claimed_by Reserve o.owner o.block) p.reserve in
      let limbo : List Claimed = map (λ (o : Owned). claimed_by Limbo o.owner o.block) p.limbo in
      let one = weigh_both w (front_part at g) list in
      let two = weigh_both w (front_part at g ++ list) trees in
      let three = weigh_both w (front_part at g ++ list ++ trees) reserve in
      let four = weigh_both w (front_part at g ++ list ++ trees ++ reserve) limbo in
      let five = weigh_both w (front_part at g ++ list ++ trees ++ reserve ++ limbo) (chunk_part us) in
      let r = weigh_map w (λ (o : Owned). claimed_by Reserve o.owner o.block) p.reserve in
      let l = weigh_map w (λ (o : Owned). claimed_by Limbo o.owner o.block) p.limbo in
      sums (weigh w (front_part at g)) (weigh w list) (weigh w trees) (weigh w reserve) (weigh w limbo) (weigh w (chunk_part us)) (weigh reserved_weight p.reserve) (weigh limbo_weight p.limbo)
      (weigh w (front_part at g ++ list)) (weigh w (front_part at g ++ list ++ trees)) (weigh w (front_part at g ++ list ++ trees ++ reserve)) (weigh w (front_part at g ++ list ++ trees ++ reserve ++ limbo)) (weigh w (parts at g p us)) one two three four five r l
    where
      sums : (f x t r l c r' l' s1 s2 s3 s4 s5 : ℕ) → s1 ≡ f + x → s2 ≡ s1 + t → s3 ≡ s2 + r → s4 ≡ s3 + l → s5 ≡ s4 + c → r ≡ r' → l ≡ l' → s5 ≡ f + x + t + r' + l' + c
      sums f x t r l c r' l' s1 s2 s3 s4 s5 e1 e2 e3 e4 e5 e6 e7 = omega (arith, e1, e2, e3, e4, e5, e6, e7)

pub metadata_parts : (a : State) (g : ℕ) → metadata_claims a g ≡ parts a.geometry g (a.group g) (chunks a g)
unfolding metadata_claims
metadata_parts a g = refl

pub claims_weight : (w : Claimed → ℕ) (a : State) (g : ℕ) → weigh w (claims a g) ≡ weigh w (parts a.geometry g (a.group g) (chunks a g)) + weigh w (fork_claims a g)
unfolding claims
claims_weight w a g = weigh_both w (metadata_claims a g) (fork_claims a g) ∙ ap (λ (cs : List Claimed). weigh w cs + weigh w (fork_claims a g)) (metadata_parts a g)

-- ---- clear blocks

abbrev pub owned_by : ℕ → Claimed → ℕ
owned_by b c = if c.block == b then 1 else 0

abbrev pub alone_by : ℕ → Claimed → ℕ
alone_by b c = if c.block == b then (if is_written_data c then 0 else 1) else 0

-- a claim that isn't written data is the block's only one
abbrev pub ClearAt : ℕ → List Claimed → Type 0
ClearAt b cs = 1 ≤ weigh (alone_by b) cs → weigh (owned_by b) cs ≤ 1

abbrev is_alone : Claimed → Bool
is_alone c = not (is_written_data c)

abbrev alone_bit : Claimed → ℕ
alone_bit c = if is_written_data c then 0 else 1

any_alone : (cs : List Claimed) → list_any is_alone cs ≡ true → 1 ≤ weigh alone_bit cs
any_alone [] h = absurd (true≢false (sym h))
any_alone (c ∷ cs) h = by (is_written_data c) h (any_alone cs)
  where
    by : (k : Bool) → (not k || list_any is_alone cs) ≡ true → (list_any is_alone cs ≡ true → 1 ≤ weigh alone_bit cs) → 1 ≤ (if k then 0 else 1) + weigh alone_bit cs
    by true i f = let r = f i in omega (arith, r)
    by false i f = omega arith

none_alone : (cs : List Claimed) → list_any is_alone cs ≡ false → weigh alone_bit cs ≡ 0
none_alone [] h = refl
none_alone (c ∷ cs) h = by (is_written_data c) h (none_alone cs)
  where
    by : (k : Bool) → (not k || list_any is_alone cs) ≡ false → (list_any is_alone cs ≡ false → weigh alone_bit cs ≡ 0) → (if k then 0 else 1) + weigh alone_bit cs ≡ 0
    by true i f = let r = f i in omega (arith, r)
    by false i f = absurd (true≢false i)

some_none : (e : Evidence) → ◌≡◌ {A = Option Evidence} (Some e) None → ⊥
some_none e h = cc

clear_from : (cs : List Claimed) → overlap_in cs ≡ None → 1 ≤ weigh alone_bit cs → weigh (λ c. 1) cs ≤ 1
clear_from [] h i = omega arith
clear_from (c ∷ []) h i = omega arith
clear_from (c ∷ d ∷ cs) h i = (elim (list_any is_alone (c ∷ d ∷ cs)) as (λ k. list_any is_alone (c ∷ d ∷ cs) ≡ k → (if k then Some (Overlap c.block c.claim d.claim) else None) ≡ None → weigh (λ x. 1) (c ∷ d ∷ cs) ≤ 1) [
  | true ↦ λ e n. absurd (some_none _ n)
  | false ↦ λ e n. let z = none_alone (c ∷ d ∷ cs) e in absurd (omega (arith, i, z))
]) refl h

clear_to : (cs : List Claimed) → (1 ≤ weigh alone_bit cs → weigh (λ c. 1) cs ≤ 1) → overlap_in cs ≡ None
clear_to [] h = refl
clear_to (c ∷ []) h = refl
clear_to (c ∷ d ∷ cs) h = (elim (list_any is_alone (c ∷ d ∷ cs)) as (λ k. list_any is_alone (c ∷ d ∷ cs) ≡ k → (if k then Some (Overlap c.block c.claim d.claim) else None) ≡ None) [
  | true ↦ λ e. let r = h (any_alone (c ∷ d ∷ cs) e) in absurd (omega (arith, r))
  | false ↦ λ e. refl
]) refl

-- ---- all blocks of a group

each_none : (f : ℕ → Option Evidence) (xs : List ℕ) → first_of_all (map f xs) ≡ None → (x : ℕ) → In x xs → f x ≡ None
each_none f [] h x i = absurd i
each_none f (y ∷ ys) h x i = (elim (f y) as (λ o. f y ≡ o → first_of_all (o ∷ map f ys) ≡ None → f x ≡ None) [
  | None ↦ λ e j. elim i [ inl same ↦ ap f (sym same) ∙ e | inr later ↦ each_none f ys j x later ]
  | Some v ↦ λ e j. absurd (some_none v j)
]) refl h

all_none : (f : ℕ → Option Evidence) (xs : List ℕ) → ((x : ℕ) → In x xs → f x ≡ None) → first_of_all (map f xs) ≡ None
all_none f [] h = refl
all_none f (x ∷ xs) h = ap (λ (o : Option Evidence). first_of_all (o ∷ map f xs)) (h x (inl refl)) ∙ all_none f xs (λ y i. h y (inr i))

in_numbers : (from n x : ℕ) → In x (numbers from n) → x < from + n
in_numbers from zero x i = absurd i
in_numbers from (suc n) x (inl e) = omega (arith, e)
in_numbers from (suc n) x (inr i) = let h = in_numbers (from + 1) n x i in omega (arith, h)

number_in : (from n x : ℕ) → from ≤ x → x < from + n → In x (numbers from n)
number_in from zero x low high = absurd (omega (arith, low, high))
number_in from (suc n) x low high = elim (cases_order from x) [
  | inl e ↦ inl e
  | inr (inl l) ↦ inr (number_in (from + 1) n x (omega (arith, l)) (omega (arith, high)))
  | inr (inr l) ↦ absurd (omega (arith, l, low))
]

module _ (a : State) (g : ℕ) (cs : List Claimed) where
  of_block : (b : ℕ) → (weigh alone_bit (filter (λ c. c.block == b) cs) ≡ weigh (alone_by b) cs) × (weigh (λ c. 1) (filter (λ c. c.block == b) cs) ≡ weigh (owned_by b) cs)
  of_block b = (weigh_filter alone_bit (λ c. c.block == b) cs, weigh_filter (λ c. 1) (λ c. c.block == b) cs)

  pub clear_if_none : first_overlap a g cs ≡ None → (b : ℕ) → b < group_len_of a.geometry g → ClearAt b cs
  unfolding first_overlap
  clear_if_none h b lt some =
      let e = of_block b in
      let alone = e.0 in
      let owned = e.1 in
      let r = clear_from (filter (λ c. c.block == b) cs) (each_none (λ x. overlap_in (filter (λ c. c.block == x) cs)) (numbers 0 (group_len_of a.geometry g)) h b (number_in 0 (group_len_of a.geometry g) b (omega arith) (omega (arith, lt)))) (omega (arith, some, alone)) in
      omega (arith, r, owned)

  pub none_if_clear : ((b : ℕ) → b < group_len_of a.geometry g → ClearAt b cs) → first_overlap a g cs ≡ None
  unfolding first_overlap
  none_if_clear h = all_none (λ x. overlap_in (filter (λ c. c.block == x) cs)) (numbers 0 (group_len_of a.geometry g)) (λ b i.
      let e = of_block b in
      let alone = e.0 in
      let owned = e.1 in
      clear_to (filter (λ c. c.block == b) cs) (λ some. let r = h b (let lt = in_numbers 0 (group_len_of a.geometry g) b i in omega (arith, lt)) (omega (arith, some, alone)) in omega (arith, r, owned)))

-- ---- owners

abbrev pub is_owner : Tuple → Claimed → ℕ
is_owner t c = if is_same t (tuple_of c) then 1 else 0

pub has_weight : (cs : List Claimed) (t : Tuple) → has (map tuple_of cs) t ≡ nat_lt 0 (weigh (is_owner t) cs)
has_weight [] t = refl
has_weight (c ∷ cs) t = by (is_same t (tuple_of c)) (has_weight cs t)
  where
    by : (k : Bool) → has (map tuple_of cs) t ≡ nat_lt 0 (weigh (is_owner t) cs) → (k || has (map tuple_of cs) t) ≡ nat_lt 0 ((if k then 1 else 0) + weigh (is_owner t) cs)
    by true h = sym (lt-ltb 0 (1 + weigh (is_owner t) cs) (omega arith))
    by false h = h ∙ ap (nat_lt 0) (zero_more (weigh (is_owner t) cs))
      where
        zero_more : (n : ℕ) → n ≡ 0 + n
        zero_more n = omega arith

pub same_positive : (n m : ℕ) → (1 ≤ n → 1 ≤ m) → (1 ≤ m → 1 ≤ n) → nat_lt 0 n ≡ nat_lt 0 m
same_positive n m f h = elim (cases_order n 0) [
  | inl e ↦ elim (cases_order m 0) [
    | inl i ↦ ap (nat_lt 0) (e ∙ sym i)
    | inr (inl l) ↦ absurd (omega (arith, l))
    | inr (inr l) ↦ let r = h (omega (arith, l)) in absurd (omega (arith, r, e))
  ]
  | inr (inl l) ↦ absurd (omega (arith, l))
  | inr (inr l) ↦ let r = f (omega (arith, l)) in lt-ltb 0 n l ∙ sym (lt-ltb 0 m (omega (arith, r)))
]
