-- A block of a unit's reserve counts alike as reserve, as a new tree's, and as limbo.
use Rattle.std.proofs.Common.{◌≡◌, ℕ, ◌+◌, ◌*◌, ◌<◌, ◌==◌, ◌&&◌, ◌||◌, Bool, true, false, cond, List, [], ◌∷◌, ◌++◌, map, flat_map, take, drop, zero, suc, refl, sym, ap, ap₂, subst, ◌∙◌, eqb-true, eq-eqb, arith, inl, inr}
use Rattle.std.specs.Prelude.{nat_lt, if◌then◌else◌}
use Rattle.std.specs.List.{list_any, list_all}
use Rattle.std.proofs.lemmas.Bool.{true≢false, false≢true, and_parts}
use Rattle.fs_model.specs.declared.claim.Claim.{Claim}
use Rattle.fs_model.specs.declared.claim.Claim.TheVariants.{Heads, List as FreeList, Tree, Reserve, Limbo, Chunk}
use Rattle.fs_model.specs.declared.unit.Unit.TheVariants as units
use Rattle.geom.specs.Layout.{Layout}
use Rattle.rmap_recs.specs.Owners.{number_of}
use Rattle.rmap_recs.specs.Runs.{has, is_same, runs_of}
use Rattle.rmap_recs.specs.declared.owner.Owner.TheVariants.{Fs, Ag, Inodes}
use Rattle.rmap_recs.specs.declared.tuples.Tuple.{Tuple}
use Rattle.sblock.specs.declared.kind.Kind.{Kind}
use Rattle.sblock.specs.declared.kind.Kind.TheVariants.{Bno, Cnt, Rmap, Refc, Ino, Fino}
use Rattle.tree_defs.specs.Lists.{times}
use Rattle.fs_state.specs.State.{State, Group, Owned, Reading, Readable, Unreadable, blocks_of, blocks_in, comes_first, put_pair, pairs_of}
use Rattle.fs_state.specs.Chunks.{chunks}
use Rattle.fs_state.specs.Claims.{Claimed, claimed_by, log_claims, metadata_claims, fork_claims, claims, data_claims, attribute_claims, tree_claims}
use Rattle.fs_state.specs.Derive.{derive}
use Rattle.fs_state.specs.Records.{all_kinds, kinds_of, tree_owner}
use Rattle.fs_state.specs.Lists.{numbers}
use Rattle.fs_state.specs.Own.{tuple_of, own, rmap_of}
use Rattle.fs_change.proofs.Alike.{chunks_alike, inodes_alike, moved_listed, prepared_listed, inodes_counted, free_counted, refc_counted}
use Rattle.fs_change.proofs.Sets.{one_set, order}
use Rattle.fs_change.proofs.Trees.{in_itself}
use Rattle.fs_change.specs.Laws.{ReserveCountsAlike}
use Rattle.fs_change.specs.Parts.{in_blocks}
use Rattle.fs_change.specs.Switch.{is_reserve_of, AreLaid, join_limbo, kind_need, need, empty_trees, without_trees, lost_owned, prepared, limbo_of, move_blocks, moved}

-- ---- tuples of claims

abbrev pub hasc : List Claimed → Tuple → Bool
hasc cs t = has (map tuple_of cs) t

or_again : (a b c : Bool) → (a || (b || c)) ≡ ((a || b) || c)
or_again true b c = refl
or_again false b c = refl

pub hasc_both : (cs ds : List Claimed) (t : Tuple) → hasc (cs ++ ds) t ≡ (hasc cs t || hasc ds t)
hasc_both [] ds t = refl
hasc_both (c ∷ cs) ds t = ap (λ b. is_same t (tuple_of c) || b) (hasc_both cs ds t) ∙ or_again (is_same t (tuple_of c)) (hasc cs t) (hasc ds t)

-- the tuple is that of this block with that owner
abbrev pub is_plain : Tuple → ℕ → ℕ → Bool
is_plain t owner b = is_same t (record { block = b; owner = owner; word = 0 })

pub has_blocks : (c : Claim) (owner : ℕ) (bs : List ℕ) (t : Tuple) → hasc (map (claimed_by c owner) bs) t ≡ list_any (is_plain t owner) bs
has_blocks c owner [] t = refl
has_blocks c owner (b ∷ bs) t = ap (λ x. is_plain t owner b || x) (has_blocks c owner bs t)

abbrev pub is_owned_by : Tuple → Owned → Bool
is_owned_by t o = is_plain t o.owner o.block

has_pairs : (c : Claim) (os : List Owned) (t : Tuple) → hasc (map (λ (o : Owned). claimed_by c o.owner o.block) os) t ≡ list_any (is_owned_by t) os
has_pairs c [] t = refl
has_pairs c (o ∷ os) t = ap (λ x. is_owned_by t o || x) (has_pairs c os t)

-- ---- sets of pairs

or_left : (a b : Bool) → (a || b) ≡ false → a ≡ false
or_left true b h = h
or_left false b h = refl

or_right : (a b : Bool) → (a || b) ≡ false → b ≡ false
or_right true b h = absurd (true≢false h)
or_right false b h = h

and_right : (a b : Bool) → a ≡ true → (a && b) ≡ false → b ≡ false
and_right true b h i = i
and_right false b h i = absurd (false≢true h)

no_less : (a b : ℕ) → nat_lt a b ≡ false → nat_lt b a ≡ false → a ≡ b
no_less a b h i = elim (order a b) as (λ o. a ≡ b) [
  | inl l ↦ absurd (true≢false (sym l ∙ h))
  | inr r ↦ elim r as (λ o. a ≡ b) [
    | inl l ↦ absurd (true≢false (sym l ∙ i))
    | inr e ↦ e
  ]
]

same_pair : (test : Owned → Bool) (o p : Owned) → comes_first o p ≡ false → comes_first p o ≡ false → test o ≡ test p
same_pair test o p h i =
    let blocks : o.block ≡ p.block = no_less o.block p.block (or_left (nat_lt o.block p.block) (o.block == p.block && nat_lt o.owner p.owner) h) (or_left (nat_lt p.block o.block) (p.block == o.block && nat_lt p.owner o.owner) i) in
    let owners : o.owner ≡ p.owner = no_less o.owner p.owner
    (and_right (o.block == p.block) (nat_lt o.owner p.owner) (eq-eqb o.block p.block blocks) (or_right (nat_lt o.block p.block) (o.block == p.block && nat_lt o.owner p.owner) h))
    (and_right (p.block == o.block) (nat_lt p.owner o.owner) (eq-eqb p.block o.block (sym blocks)) (or_right (nat_lt p.block o.block) (p.block == o.block && nat_lt p.owner o.owner) i)) in
    λ j. test (record { block = blocks j; owner = owners j })

or_both : (x y z : Bool) → (x || (y || z)) ≡ (y || (x || z))
or_both true true z = refl
or_both true false z = refl
or_both false true z = refl
or_both false false z = refl

or_twice : (x y z : Bool) → x ≡ y → (y || z) ≡ (x || (y || z))
or_twice true y z e = ap (λ b. b || z) (sym e)
or_twice false y z e = refl

put_any : (test : Owned → Bool) (o : Owned) (ps : List Owned) → list_any test (put_pair o ps) ≡ (test o || list_any test ps)
put_any test o [] = refl
put_any test o (p ∷ ps) = (elim (comes_first o p) as (λ b. comes_first o p ≡ b → list_any test (cond b (o ∷ p ∷ ps) (cond (comes_first p o) (p ∷ put_pair o ps) (p ∷ ps))) ≡ (test o || (test p || list_any test ps))) [
  | true ↦ λ h. refl
  | false ↦ λ h. (elim (comes_first p o) as (λ b. comes_first p o ≡ b → list_any test (cond b (p ∷ put_pair o ps) (p ∷ ps)) ≡ (test o || (test p || list_any test ps))) [
    | true ↦ λ i. ap (λ b. test p || b) (put_any test o ps) ∙ or_both (test p) (test o) (list_any test ps)
    | false ↦ λ i. or_twice (test o) (test p) (list_any test ps) (same_pair test o p h i)
  ]) refl
]) refl

pairs_any : (test : Owned → Bool) (os : List Owned) → list_any test (pairs_of os) ≡ list_any test os
pairs_any test [] = refl
pairs_any test (o ∷ os) = put_any test o (pairs_of os) ∙ ap (λ b. test o || b) (pairs_any test os)

any_both : {X : Type 0} (test : X → Bool) (xs ys : List X) → list_any test (xs ++ ys) ≡ (list_any test xs || list_any test ys)
any_both test [] ys = refl
any_both test (x ∷ xs) ys = ap (λ b. test x || b) (any_both test xs ys) ∙ or_again (test x) (list_any test xs) (list_any test ys)

joined_any : (test : Owned → Bool) (more limbo : List Owned) → list_any test (join_limbo more limbo) ≡ (list_any test more || list_any test limbo)
joined_any test more limbo = pairs_any test (more ++ limbo) ∙ any_both test more limbo

-- ---- the reserve, its first blocks and the others

any_parts : (test : ℕ → Bool) (n : ℕ) (xs : List ℕ) → (list_any test (take n xs) || list_any test (drop n xs)) ≡ list_any test xs
any_parts test zero xs = refl
any_parts test (suc n) [] = refl
any_parts test (suc n) (x ∷ xs) = sym (or_again (test x) (list_any test (take n xs)) (list_any test (drop n xs))) ∙ ap (λ b. test x || b) (any_parts test n xs)

blocks_behind : (n : ℕ) (os : List Owned) → blocks_in (drop n os) ≡ drop n (blocks_in os)
blocks_behind zero os = refl
blocks_behind (suc n) [] = refl
blocks_behind (suc n) (o ∷ os) = blocks_behind n os

-- pairs of one owner are their blocks
of_owner : (t : Tuple) (owner : ℕ) (os : List Owned) → list_all (λ o. o.owner == owner) os ≡ true → list_any (is_owned_by t) os ≡ list_any (is_plain t owner) (blocks_in os)
of_owner t owner [] h = refl
of_owner t owner (o ∷ os) h =
    let v = and_parts (o.owner == owner) (list_all (λ o. o.owner == owner) os) h in
    ap₂ (λ x y. x || y) (ap (λ n. is_plain t n o.block) (eqb-true o.owner owner v.0)) (of_owner t owner os v.1)

all_behind : (test : Owned → Bool) (n : ℕ) (os : List Owned) → list_all test os ≡ true → list_all test (drop n os) ≡ true
all_behind test zero os h = h
all_behind test (suc n) [] h = refl
all_behind test (suc n) (o ∷ os) h = all_behind test n os (and_parts (test o) (list_all test os) h).1

-- a number of the list passes, so it stands there
one_passes : (test : ℕ → Bool) (xs : List ℕ) → list_any test xs ≡ true → (b : ℕ) × (test b ≡ true) × (0 < times b xs)
one_passes test [] h = absurd (false≢true h)
one_passes test (x ∷ xs) h = (elim (test x) as (λ b. test x ≡ b → (b || list_any test xs) ≡ true → (c : ℕ) × (test c ≡ true) × (0 < (if x == c then 1 else 0) + times c xs)) [
  | true ↦ λ e i. (x, e, subst (λ (b : Bool). 0 < (if b then 1 else 0) + times x xs) (sym (eq-eqb x x refl)) (omega arith))
  | false ↦ λ e i. let r = one_passes test xs i in (r.0, r.1, more r.0 (x == r.0) (times r.0 xs) r.2)
]) refl h
  where
    more : (c : ℕ) (b : Bool) (n : ℕ) → 0 < n → 0 < (if b then 1 else 0) + n
    more c true n h = omega arith
    more c false n h = omega arith

passes_one : (test : ℕ → Bool) (b : ℕ) (xs : List ℕ) → test b ≡ true → 0 < times b xs → list_any test xs ≡ true
passes_one test b [] h i = absurd (no_zero i)
  where
    no_zero : 0 < 0 → ⊥
    no_zero h = omega arith
passes_one test b (x ∷ xs) h i = (elim (x == b) as (λ e. (x == b) ≡ e → 0 < (if e then 1 else 0) + times b xs → (test x || list_any test xs) ≡ true) [
  | true ↦ λ e j. ap (λ y. y || list_any test xs) (ap test (eqb-true x b e) ∙ h)
  | false ↦ λ e j. or_here (test x) (list_any test xs) (passes_one test b xs h (less (times b xs) j))
]) refl i
  where
    less : (n : ℕ) → 0 < 0 + n → 0 < n
    less n k = omega arith

    or_here : (x y : Bool) → y ≡ true → (x || y) ≡ true
    or_here true y h = refl
    or_here false y h = h

both_ways : (a b : Bool) → (a ≡ true → b ≡ true) → (b ≡ true → a ≡ true) → a ≡ b
both_ways true true f g = refl
both_ways true false f g = sym (f refl)
both_ways false true f g = g refl
both_ways false false f g = refl

-- lists that have each number equally often
same_any : (test : ℕ → Bool) (xs ys : List ℕ) → ((b : ℕ) → times b xs ≡ times b ys) → list_any test xs ≡ list_any test ys
same_any test xs ys same = both_ways (list_any test xs) (list_any test ys)
    (λ h. let r = one_passes test xs h in passes_one test r.0 ys r.1 (subst (λ (n : ℕ). 0 < n) (same r.0) r.2))
    (λ h. let r = one_passes test ys h in passes_one test r.0 xs r.1 (subst (λ (n : ℕ). 0 < n) (sym (same r.0)) r.2))

-- ---- metadata of a group, by its parts

abbrev pub tree_part : Group → Kind → List Claimed
tree_part p k = map (claimed_by (Tree k) (tree_owner k)) (blocks_of (p.tree k).reading)

abbrev pub parts : Layout → ℕ → Group → List ℕ → List Claimed
parts at g p us =
    claimed_by Heads (number_of Fs) 0 ∷ log_claims at.log g
    ++ map (claimed_by FreeList (number_of Ag)) p.free_list
    ++ flat_map (tree_part p) all_kinds
    ++ map (λ (o : Owned). claimed_by Reserve o.owner o.block) p.reserve
    ++ map (λ (o : Owned). claimed_by Limbo o.owner o.block) p.limbo
    ++ flat_map (λ u. map (claimed_by Chunk (number_of Inodes)) (numbers (8 * u) 8)) us

abbrev pub chunk_part : List ℕ → List Claimed
chunk_part us = flat_map (λ u. map (claimed_by Chunk (number_of Inodes)) (numbers (8 * u) 8)) us

-- whether one of the parts behind the list has the tuple
abbrev pub trees_have : Group → Tuple → Bool
trees_have p t = hasc (tree_part p Bno) t || (hasc (tree_part p Cnt) t || (list_any (is_plain t (number_of Ag)) (blocks_of (p.tree Rmap).reading) || (hasc (tree_part p Refc) t || (hasc (tree_part p Ino) t || (hasc (tree_part p Fino) t || false)))))

abbrev pub has_behind : Group → List ℕ → Tuple → Bool
has_behind p us t =
    trees_have p t
    || (list_any (is_owned_by t) p.reserve || (list_any (is_owned_by t) p.limbo || hasc (chunk_part us) t))

or_true : (x y : Bool) → y ≡ true → (x || y) ≡ true
or_true true y h = refl
or_true false y h = h

pub chunks_behind : (p : Group) (us : List ℕ) (t : Tuple) → hasc (chunk_part us) t ≡ true → has_behind p us t ≡ true
chunks_behind p us t e =
    or_true (trees_have p t) (list_any (is_owned_by t) p.reserve || (list_any (is_owned_by t) p.limbo || hasc (chunk_part us) t))
    (or_true (list_any (is_owned_by t) p.reserve) (list_any (is_owned_by t) p.limbo || hasc (chunk_part us) t)
    (or_true (list_any (is_owned_by t) p.limbo) (hasc (chunk_part us) t) e))

trees_parted : (p : Group) (t : Tuple) → hasc (flat_map (tree_part p) all_kinds) t
    ≡ (hasc (tree_part p Bno) t || (hasc (tree_part p Cnt) t || (list_any (is_plain t (number_of Ag)) (blocks_of (p.tree Rmap).reading) || (hasc (tree_part p Refc) t || (hasc (tree_part p Ino) t || (hasc (tree_part p Fino) t || false))))))
trees_parted p t =
    let part : Kind → List Claimed = tree_part p in
    hasc_both (part Bno) (part Cnt ++ (part Rmap ++ (part Refc ++ (part Ino ++ (part Fino ++ []))))) t
    ∙ ap (λ b. hasc (part Bno) t || b) (hasc_both (part Cnt) (part Rmap ++ (part Refc ++ (part Ino ++ (part Fino ++ [])))) t
    ∙ ap (λ b. hasc (part Cnt) t || b) (hasc_both (part Rmap) (part Refc ++ (part Ino ++ (part Fino ++ []))) t
    ∙ ap₂ (λ x y. x || y) (has_blocks (Tree Rmap) (number_of Ag) (blocks_of (p.tree Rmap).reading) t) (hasc_both (part Refc) (part Ino ++ (part Fino ++ [])) t
    ∙ ap (λ b. hasc (part Refc) t || b) (hasc_both (part Ino) (part Fino ++ []) t
    ∙ ap (λ b. hasc (part Ino) t || b) (hasc_both (part Fino) [] t)))))

abbrev pub front : Layout → ℕ → Group → List Claimed
front at g p = claimed_by Heads (number_of Fs) 0 ∷ (log_claims at.log g ++ map (claimed_by FreeList (number_of Ag)) p.free_list)

regroup : (h x y r l c : Bool) → (h || ((((x || y) || r) || l) || c)) ≡ ((h || x) || (y || (r || (l || c))))
regroup true x y r l c = refl
regroup false true y r l c = refl
regroup false false true r l c = refl
regroup false false false true l c = refl
regroup false false false false true c = refl
regroup false false false false false c = refl

pub parted : (at : Layout) (g : ℕ) (p : Group) (us : List ℕ) (t : Tuple) → hasc (parts at g p us) t ≡ (hasc (front at g p) t || has_behind p us t)
parted at g p us t =
    let reserve : List Claimed = map (λ (o : Owned). claimed_by Reserve o.owner o.block) p.reserve in
    let limbo : List Claimed = map (λ (o : Owned). claimed_by Limbo o.owner o.block) p.limbo in
    let trees : List Claimed = flat_map (tree_part p) all_kinds in
    let first : List Claimed = log_claims at.log g ++ map (claimed_by FreeList (number_of Ag)) p.free_list in
    ap (λ b. is_same t (tuple_of (claimed_by Heads (number_of Fs) 0)) || b)
    (hasc_both (((first ++ trees) ++ reserve) ++ limbo) (chunk_part us) t
    ∙ ap (λ b. b || hasc (chunk_part us) t) (hasc_both ((first ++ trees) ++ reserve) limbo t
    ∙ ap₂ (λ x y. x || y) (hasc_both (first ++ trees) reserve t
    ∙ ap₂ (λ x y. x || y) (hasc_both first trees t ∙ ap (λ b. hasc first t || b) (trees_parted p t)) (has_pairs Reserve p.reserve t)) (has_pairs Limbo p.limbo t)))
    ∙ regroup (is_same t (tuple_of (claimed_by Heads (number_of Fs) 0))) (hasc first t)
    (hasc (tree_part p Bno) t || (hasc (tree_part p Cnt) t || (list_any (is_plain t (number_of Ag)) (blocks_of (p.tree Rmap).reading) || (hasc (tree_part p Refc) t || (hasc (tree_part p Ino) t || (hasc (tree_part p Fino) t || false))))))
    (list_any (is_owned_by t) p.reserve) (list_any (is_owned_by t) p.limbo) (hasc (chunk_part us) t)

-- ---- both states

blocks_put : {R : Type 0} (blocks : List ℕ) (r : Reading R) → blocks_of (in_blocks blocks r) ≡ blocks
blocks_put blocks (Readable recs old) = refl
blocks_put blocks (Unreadable block fault claims) = refl

shuffle : (b c k r l d z ch : Bool) → ((b || (c || (k || r))) || (((l || d) || z) || ch)) ≡ ((b || (c || r)) || ((k || d) || ((l || z) || ch)))
shuffle true c k r l d z ch = refl
shuffle false true k r l d z ch = refl
shuffle false false true true l d z ch = refl
shuffle false false true false l d z ch = refl
shuffle false false false true l d z ch = refl
shuffle false false false false true true z ch = refl
shuffle false false false false true false z ch = refl
shuffle false false false false false true z ch = refl
shuffle false false false false false false z ch = refl

plus_zero : (n : ℕ) → 0 + n ≡ n
plus_zero n = omega arith

module _ (a : State) (g : ℕ) (blocks : Kind → List ℕ) (own_reserve : is_reserve_of units.Rmap (a.group g) ≡ true) (laid : AreLaid (kind_need a g units.Rmap) (kinds_of units.Rmap) (blocks_in (a.group g).reserve) blocks) where
  abbrev after : State
  after = moved a g units.Rmap blocks

  abbrev before : State
  before = prepared a g units.Rmap

  abbrev reserve : List Owned
  reserve = (a.group g).reserve

  abbrev count : ℕ
  count = kind_need a g units.Rmap Rmap

  abbrev emptied : Group
  emptied = record (empty_trees (kinds_of units.Rmap) (a.group g)) { limbo = join_limbo (lost_owned a g units.Rmap) (a.group g).limbo }

  -- the first blocks of the reserve and the others are all of it
  whole_reserve : (t : Tuple) → (list_any (is_plain t (number_of Ag)) (blocks Rmap) || list_any (is_owned_by t) (drop (need a g units.Rmap) reserve)) ≡ list_any (is_owned_by t) reserve
  unfolding need
  whole_reserve t =
      ap₂ (λ x y. x || y)
      (same_any (is_plain t (number_of Ag)) (blocks Rmap) (take count (blocks_in reserve)) laid.0.same)
      (ap (λ n. list_any (is_owned_by t) (drop n reserve)) (plus_zero count)
      ∙ of_owner t (number_of Ag) (drop count reserve) (all_behind (λ o. o.owner == number_of Ag) count reserve own_reserve)
      ∙ ap (list_any (is_plain t (number_of Ag))) (blocks_behind count reserve))
      ∙ any_parts (is_plain t (number_of Ag)) count (blocks_in reserve)
      ∙ sym (of_owner t (number_of Ag) reserve own_reserve)

  abbrev rest_of_trees : Tuple → Bool
  rest_of_trees t = hasc (tree_part (a.group g) Refc) t || (hasc (tree_part (a.group g) Ino) t || (hasc (tree_part (a.group g) Fino) t || false))

  same_behind : (us : List ℕ) (t : Tuple) → has_behind (move_blocks a g units.Rmap blocks (a.group g)) us t ≡ has_behind emptied us t
  unfolding limbo_of
  same_behind us t =
      let b : Bool = hasc (tree_part (a.group g) Bno) t in
      let c : Bool = hasc (tree_part (a.group g) Cnt) t in
      let r : Bool = rest_of_trees t in
      let k : Bool = list_any (is_plain t (number_of Ag)) (blocks Rmap) in
      let lost : Bool = list_any (is_owned_by t) (lost_owned a g units.Rmap) in
      let d : Bool = list_any (is_owned_by t) (drop (need a g units.Rmap) reserve) in
      let z : Bool = list_any (is_owned_by t) (a.group g).limbo in
      let ch : Bool = hasc (chunk_part us) t in
      ap₂ (λ x y. (b || (c || (x || r))) || (y || ch))
      (ap (list_any (is_plain t (number_of Ag))) (blocks_put (blocks Rmap) ((a.group g).tree Rmap).reading))
      (joined_any (is_owned_by t) (limbo_of a g units.Rmap) (a.group g).limbo ∙ ap (λ x. x || z) (joined_any (is_owned_by t) (lost_owned a g units.Rmap) (drop (need a g units.Rmap) reserve)))
      ∙ shuffle b c k r lost d z ch
      ∙ ap₂ (λ x y. (b || (c || r)) || (x || (y || ch))) (whole_reserve t) (sym (joined_any (is_owned_by t) (lost_owned a g units.Rmap) (a.group g).limbo))
      ∙ ap (λ x. (b || (c || (x || r))) || (list_any (is_owned_by t) reserve || (list_any (is_owned_by t) (join_limbo (lost_owned a g units.Rmap) (a.group g).limbo) || ch))) (sym (ap (list_any (is_plain t (number_of Ag))) (blocks_put [] ((a.group g).tree Rmap).reading)))

  after_parts : metadata_claims after g ≡ parts a.geometry g (move_blocks a g units.Rmap blocks (a.group g)) (chunks a g)
  unfolding metadata_claims moved
  after_parts = ap₂ (λ (p : Group) (us : List ℕ). parts a.geometry g p us) (in_itself g (move_blocks a g units.Rmap blocks) a) (chunks_alike a after (moved_listed a g units.Rmap blocks) g)

  before_parts : metadata_claims before g ≡ parts a.geometry g emptied (chunks a g)
  unfolding metadata_claims prepared without_trees
  before_parts = ap₂ (λ (p : Group) (us : List ℕ). parts a.geometry g p us)
      (in_itself g (λ p. record p { limbo = join_limbo (lost_owned a g units.Rmap) p.limbo }) (without_trees a g units.Rmap)
      ∙ ap (λ (p : Group). record p { limbo = join_limbo (lost_owned a g units.Rmap) p.limbo }) (in_itself g (empty_trees (kinds_of units.Rmap)) a))
      (chunks_alike a before (prepared_listed a g units.Rmap) g)

  after_forks : fork_claims after g ≡ fork_claims a g
  unfolding fork_claims moved
  after_forks = ap (λ is. flat_map (data_claims a g) is ++ flat_map (attribute_claims a g) is ++ flat_map (tree_claims a g) is) (inodes_alike a after (moved_listed a g units.Rmap blocks))

  before_forks : fork_claims before g ≡ fork_claims a g
  unfolding fork_claims prepared without_trees
  before_forks = ap (λ is. flat_map (data_claims a g) is ++ flat_map (attribute_claims a g) is ++ flat_map (tree_claims a g) is) (inodes_alike a before (prepared_listed a g units.Rmap))

  same_claims : (t : Tuple) → hasc (claims after g) t ≡ hasc (claims before g) t
  unfolding claims
  same_claims t =
      hasc_both (metadata_claims after g) (fork_claims after g) t
      ∙ ap₂ (λ x y. x || y)
      (ap (λ cs. hasc cs t) after_parts ∙ parted a.geometry g (move_blocks a g units.Rmap blocks (a.group g)) (chunks a g) t
      ∙ ap (λ x. hasc (front a.geometry g (a.group g)) t || x) (same_behind (chunks a g) t)
      ∙ sym (parted a.geometry g emptied (chunks a g) t) ∙ ap (λ cs. hasc cs t) (sym before_parts))
      (ap (λ cs. hasc cs t) (after_forks ∙ sym before_forks))
      ∙ sym (hasc_both (metadata_claims before g) (fork_claims before g) t)

  pub rmap_counted : rmap_of (moved a g units.Rmap blocks) g ≡ rmap_of (prepared a g units.Rmap) g
  unfolding rmap_of own
  rmap_counted = ap runs_of (one_set (map tuple_of (claims after g)) (map tuple_of (claims before g)) same_claims)

pub reserve_counts_alike : ReserveCountsAlike
unfolding derive
reserve_counts_alike a g units.Inode blocks own_reserve laid = inodes_counted a g blocks
reserve_counts_alike a g units.Rmap blocks own_reserve laid = (rmap_counted a g blocks own_reserve laid, tt)
reserve_counts_alike a g units.Free blocks own_reserve laid = free_counted a g blocks
reserve_counts_alike a g units.Refc blocks own_reserve laid = refc_counted a g blocks
