-- Blocks with their owners: which of them a group's list, trees and limbo have.
use Rattle.std.proofs.Common.{◌≡◌, ℕ, ◌+◌, ◌<◌, ◌≤◌, ◌==◌, ◌&&◌, ◌||◌, Bool, true, false, cond, not, List, [], ◌∷◌, ◌++◌, map, filter, flat_map, refl, ap, ap₂, sym, subst, ◌∙◌, inl, inr, arith, eqb-true, eq-eqb}
use Rattle.std.specs.Prelude.{◌⊎◌, if◌then◌else◌}
use Rattle.std.specs.List.{list_all, list_any}
use Rattle.std.proofs.lemmas.Bool.{and_parts, cases_order, true≢false}
use Rattle.fs_change.specs.Loose.{lost_to, owners_in, pool_of, tree_blocks}
use Rattle.fs_change.specs.Switch.{has_owned, is_same_owned, owned_by}
use Rattle.fs_state.specs.Records.{all_kinds, tree_owner}
use Rattle.fs_state.specs.State.{Group, Owned, blocks_in}
use Rattle.rmap_recs.specs.Owners.{number_of}
use Rattle.rmap_recs.specs.declared.owner.Owner.TheVariants.{Ag}
use Rattle.sblock.specs.declared.kind.Kind.{Kind}
use Rattle.sblock.specs.declared.kind.Kind.TheVariants.{Bno, Cnt, Rmap, Refc, Ino, Fino}
use Rattle.tree_defs.specs.Lists.{AllDiffer, In, is_in, times}
use Rattle.law_repairs.proofs.Repair.Totals.{weigh}

-- ---- pairs in a list

abbrev pub Among : Owned → List Owned → Type 0
Among o [] = ⊥
Among o (p ∷ ps) = (p ≡ o) ⊎ Among o ps

pub in_left : (o : Owned) (xs ys : List Owned) → Among o xs → Among o (xs ++ ys)
in_left o [] ys c = absurd c
in_left o (x ∷ xs) ys c = elim c [ inl same ↦ inl same | inr later ↦ inr (in_left o xs ys later) ]

pub in_right : (o : Owned) (xs ys : List Owned) → Among o ys → Among o (xs ++ ys)
in_right o [] ys c = c
in_right o (x ∷ xs) ys c = inr (in_right o xs ys c)

pub in_either : (o : Owned) (xs ys : List Owned) → Among o (xs ++ ys) → Among o xs ⊎ Among o ys
in_either o [] ys c = inr c
in_either o (x ∷ xs) ys c = elim c [
  | inl same ↦ inl (inl same)
  | inr later ↦ elim (in_either o xs ys later) [ inl here ↦ inl (inr here) | inr there ↦ inr there ]
]

pub of_blocks : (o : Owned) (w : ℕ) (bs : List ℕ) → o.owner ≡ w → In o.block bs → Among o (map (owned_by w) bs)
of_blocks o w [] e c = absurd c
of_blocks o w (b ∷ bs) e c = elim c [
  | inl same ↦ inl (λ i. record { block = same i; owner = sym e i })
  | inr later ↦ inr (of_blocks o w bs e later)
]

pub from_blocks : (o : Owned) (w : ℕ) (bs : List ℕ) → Among o (map (owned_by w) bs) → (o.owner ≡ w) × In o.block bs
from_blocks o w [] c = absurd c
from_blocks o w (b ∷ bs) c = elim c [
  | inl same ↦ (ap (λ (p : Owned). p.owner) (sym same), inl (ap (λ (p : Owned). p.block) same))
  | inr later ↦ let r = from_blocks o w bs later in (r.0, inr r.1)
]

-- ---- the tests of them

same_is : (o p : Owned) → is_same_owned o p ≡ true → p ≡ o
same_is o p h =
    let e = and_parts (o.block == p.block) (o.owner == p.owner) h in
    let block = eqb-true o.block p.block e.0 in
    let owner = eqb-true o.owner p.owner e.1 in
    λ i. record { block = sym block i; owner = sym owner i }

same_self : (o : Owned) → is_same_owned o o ≡ true
same_self o = ap₂ (λ (x y : Bool). x && y) (eq-eqb o.block o.block refl) (eq-eqb o.owner o.owner refl)

pub among_of : (o : Owned) (os : List Owned) → has_owned os o ≡ true → Among o os
among_of o [] h = absurd (true≢false (sym h))
among_of o (p ∷ ps) h = (elim (is_same_owned o p) as (λ b. is_same_owned o p ≡ b → (b || has_owned ps o) ≡ true → Among o (p ∷ ps)) [
  | true ↦ λ e i. inl (same_is o p e)
  | false ↦ λ e i. inr (among_of o ps i)
]) refl h

pub has_of : (o : Owned) (os : List Owned) → Among o os → has_owned os o ≡ true
has_of o [] c = absurd c
has_of o (p ∷ ps) c = elim c [
  | inl same ↦ ap (λ (b : Bool). b || has_owned ps o) (ap (is_same_owned o) same ∙ same_self o)
  | inr later ↦ or_true (is_same_owned o p) (has_owned ps o) (has_of o ps later)
]
  where
    or_true : (x y : Bool) → y ≡ true → (x || y) ≡ true
    or_true true y e = refl
    or_true false y e = e

pub each_of : (test : Owned → Bool) (os : List Owned) (o : Owned) → list_all test os ≡ true → Among o os → test o ≡ true
each_of test [] o h c = absurd c
each_of test (p ∷ ps) o h c =
    let k = and_parts (test p) (list_all test ps) h in
    elim c [ inl same ↦ ap test (sym same) ∙ k.0 | inr later ↦ each_of test ps o k.1 later ]

pub in_of : (b : ℕ) (bs : List ℕ) → is_in b bs ≡ true → In b bs
in_of b [] h = absurd (true≢false (sym h))
in_of b (x ∷ bs) h = (elim (x == b) as (λ k. (x == b) ≡ k → (k || is_in b bs) ≡ true → In b (x ∷ bs)) [
  | true ↦ λ e i. inl (eqb-true x b e)
  | false ↦ λ e i. inr (in_of b bs i)
]) refl h

-- what has none that the other lacks
pub none_lost : (os ps : List Owned) → ((o : Owned) → Among o os → Among o ps) → lost_to os ps ≡ []
none_lost os ps h = none os (λ o c. has_of o ps (h o c))
  where
    none : (xs : List Owned) → ((o : Owned) → Among o xs → has_owned ps o ≡ true) → filter (λ o. not (has_owned ps o)) xs ≡ []
    none [] h = refl
    none (x ∷ xs) h =
        ap (λ (b : Bool). cond (not b) (x ∷ filter (λ o. not (has_owned ps o)) xs) (filter (λ o. not (has_owned ps o)) xs)) (h x (inl refl))
        ∙ none xs (λ o c. h o (inr c))

-- ---- how often a block stands there

pub times_in : (b : ℕ) (bs : List ℕ) → In b bs → 1 ≤ times b bs
times_in b [] c = absurd c
times_in b (x ∷ bs) c = elim c [
  | inl same ↦ let e : ◌≡◌ {A = ℕ} (if x == b then 1 else 0) 1 = ap (λ (k : Bool). if k then 1 else 0) (eq-eqb x b same) in omega (arith, e)
  | inr later ↦ let r = times_in b bs later in omega (arith, r)
]

pub block_in : (o : Owned) (os : List Owned) → Among o os → 1 ≤ times o.block (blocks_in os)
block_in o [] c = absurd c
block_in o (p ∷ ps) c = elim c [
  | inl same ↦ let e : ◌≡◌ {A = ℕ} (if p.block == o.block then 1 else 0) 1 = ap (λ (k : Bool). if k then 1 else 0) (eq-eqb p.block o.block (ap (λ (q : Owned). q.block) same)) in omega (arith, e)
  | inr later ↦ let r = block_in o ps later in omega (arith, r)
]

pub with_block : (b : ℕ) (os : List Owned) → 1 ≤ times b (blocks_in os) → (o : Owned) × Among o os × (o.block ≡ b)
with_block b [] h = absurd (omega (arith, h))
with_block b (p ∷ ps) h = (elim (p.block == b) as (λ k. (p.block == b) ≡ k → 1 ≤ (if k then 1 else 0) + times b (blocks_in ps) → (o : Owned) × Among o (p ∷ ps) × (o.block ≡ b)) [
  | true ↦ λ e i. (p, inl refl, eqb-true p.block b e)
  | false ↦ λ e i. let r = with_block b ps (omega (arith, i)) in (r.0, inr r.1, r.2)
]) refl h

-- where each block stands once, it has one owner
pub one_pair : (os : List Owned) → AllDiffer (blocks_in os) → (o p : Owned) → Among o os → Among p os → o.block ≡ p.block → o ≡ p
one_pair [] once o p c d e = absurd c
one_pair (x ∷ xs) once o p c d e = elim c [
  | inl same ↦ elim d [
    | inl also ↦ sym same ∙ also
    | inr later ↦ absurd (twice p later (ap (λ (q : Owned). q.block) same ∙ e))
  ]
  | inr here ↦ elim d [
    | inl also ↦ absurd (twice o here (ap (λ (q : Owned). q.block) also ∙ sym e))
    | inr later ↦ one_pair xs (λ b. let h = once b in omega (arith, h)) o p here later e
  ]
]
  where
    twice : (q : Owned) → Among q xs → x.block ≡ q.block → ⊥
    twice q i at =
        let more = block_in q xs i in
        let one : ◌≡◌ {A = ℕ} (if x.block == q.block then 1 else 0) 1 = ap (λ (k : Bool). if k then 1 else 0) (eq-eqb x.block q.block at) in
        let h = once q.block in
        omega (arith, more, one, h)

blocks_both : (xs ys : List Owned) → blocks_in (xs ++ ys) ≡ blocks_in xs ++ blocks_in ys
blocks_both [] ys = refl
blocks_both (x ∷ xs) ys = ap (λ (bs : List ℕ). x.block ∷ bs) (blocks_both xs ys)

blocks_map : (w : ℕ) (bs : List ℕ) → blocks_in (map (owned_by w) bs) ≡ bs
blocks_map w [] = refl
blocks_map w (b ∷ bs) = ap (λ (cs : List ℕ). b ∷ cs) (blocks_map w bs)

abbrev pub tree_pairs : Group → Kind → List Owned
tree_pairs p k = map (owned_by (tree_owner k)) (tree_blocks p k)

blocks_trees : (p : Group) (ks : List Kind) → blocks_in (flat_map (tree_pairs p) ks) ≡ flat_map (tree_blocks p) ks
blocks_trees p [] = refl
blocks_trees p (k ∷ ks) = blocks_both (tree_pairs p k) (flat_map (tree_pairs p) ks) ∙ ap₂ (λ (xs ys : List ℕ). xs ++ ys) (blocks_map (tree_owner k) (tree_blocks p k)) (blocks_trees p ks)

pub blocks_are : (p : Group) → blocks_in (owners_in p) ≡ pool_of p
blocks_are p =
    let list : List Owned = map (owned_by (number_of Ag)) p.free_list in
    blocks_both (list ++ flat_map (tree_pairs p) all_kinds) p.limbo
    ∙ ap (λ (bs : List ℕ). bs ++ blocks_in p.limbo) (blocks_both list (flat_map (tree_pairs p) all_kinds)
    ∙ ap₂ (λ (xs ys : List ℕ). xs ++ ys) (blocks_map (number_of Ag) p.free_list) (blocks_trees p all_kinds))

-- ---- where a pair is

abbrev pub Lies : Group → Owned → Type 0
Lies p o = ((o.owner ≡ number_of Ag) × In o.block p.free_list) ⊎ (((k : Kind) × (o.owner ≡ tree_owner k) × In o.block (tree_blocks p k)) ⊎ Among o p.limbo)

in_some : (p : Group) (ks : List Kind) (o : Owned) → Among o (flat_map (tree_pairs p) ks) → (k : Kind) × (o.owner ≡ tree_owner k) × In o.block (tree_blocks p k)
in_some p [] o c = absurd c
in_some p (k ∷ ks) o c = elim (in_either o (tree_pairs p k) (flat_map (tree_pairs p) ks) c) [
  | inl here ↦ let r = from_blocks o (tree_owner k) (tree_blocks p k) here in (k, r.0, r.1)
  | inr later ↦ in_some p ks o later
]

in_all : (p : Group) (o : Owned) (k : Kind) → Among o (tree_pairs p k) → Among o (flat_map (tree_pairs p) all_kinds)
in_all p o Bno c = in_left o (tree_pairs p Bno) _ c
in_all p o Cnt c = in_right o (tree_pairs p Bno) _ (in_left o (tree_pairs p Cnt) _ c)
in_all p o Rmap c = in_right o (tree_pairs p Bno) _ (in_right o (tree_pairs p Cnt) _ (in_left o (tree_pairs p Rmap) _ c))
in_all p o Refc c = in_right o (tree_pairs p Bno) _ (in_right o (tree_pairs p Cnt) _ (in_right o (tree_pairs p Rmap) _ (in_left o (tree_pairs p Refc) _ c)))
in_all p o Ino c = in_right o (tree_pairs p Bno) _ (in_right o (tree_pairs p Cnt) _ (in_right o (tree_pairs p Rmap) _ (in_right o (tree_pairs p Refc) _ (in_left o (tree_pairs p Ino) _ c))))
in_all p o Fino c = in_right o (tree_pairs p Bno) _ (in_right o (tree_pairs p Cnt) _ (in_right o (tree_pairs p Rmap) _ (in_right o (tree_pairs p Refc) _ (in_right o (tree_pairs p Ino) _ (in_left o (tree_pairs p Fino) _ c)))))

pub lies_of : (p : Group) (o : Owned) → Among o (owners_in p) → Lies p o
lies_of p o c = elim (in_either o (map (owned_by (number_of Ag)) p.free_list ++ flat_map (tree_pairs p) all_kinds) p.limbo c) [
  | inr limbo ↦ inr (inr limbo)
  | inl front ↦ elim (in_either o (map (owned_by (number_of Ag)) p.free_list) (flat_map (tree_pairs p) all_kinds) front) [
    | inl list ↦ inl (from_blocks o (number_of Ag) p.free_list list)
    | inr trees ↦ inr (inl (in_some p all_kinds o trees))
  ]
]

pub among_by : (p : Group) (o : Owned) → Lies p o → Among o (owners_in p)
among_by p o (inl list) = in_left o (map (owned_by (number_of Ag)) p.free_list ++ flat_map (tree_pairs p) all_kinds) p.limbo (in_left o (map (owned_by (number_of Ag)) p.free_list) (flat_map (tree_pairs p) all_kinds) (of_blocks o (number_of Ag) p.free_list list.0 list.1))
among_by p o (inr (inl t)) =
    in_left o (map (owned_by (number_of Ag)) p.free_list ++ flat_map (tree_pairs p) all_kinds) p.limbo
    (in_right o (map (owned_by (number_of Ag)) p.free_list) (flat_map (tree_pairs p) all_kinds) (in_all p o t.0 (of_blocks o (tree_owner t.0) (tree_blocks p t.0) t.1 t.2)))
among_by p o (inr (inr limbo)) = in_right o (map (owned_by (number_of Ag)) p.free_list ++ flat_map (tree_pairs p) all_kinds) p.limbo limbo

-- ---- sums over pairs

pub weigh_more : (f : Owned → ℕ) (os : List Owned) (o : Owned) → Among o os → f o ≤ weigh f os
weigh_more f [] o c = absurd c
weigh_more f (p ∷ ps) o c = elim c [
  | inl same ↦ let e : f p ≡ f o = ap f same in omega (arith, e)
  | inr later ↦ let r = weigh_more f ps o later in omega (arith, r)
]

pub weigh_some : (f : Owned → ℕ) (os : List Owned) → 1 ≤ weigh f os → (o : Owned) × Among o os × (1 ≤ f o)
weigh_some f [] h = absurd (omega (arith, h))
weigh_some f (p ∷ ps) h = elim (cases_order (f p) 0) [
  | inl none ↦ let r = weigh_some f ps (omega (arith, h, none)) in (r.0, inr r.1, r.2)
  | inr (inl less) ↦ absurd (omega (arith, less))
  | inr (inr some) ↦ (p, inl refl, omega (arith, some))
]
