-- A binary search among tuples finds the one that is wanted.
use Rattle.std.proofs.Common.{◌≡◌, ◌<◌, ◌≤◌, ℕ, Bool, true, false, ◌&&◌, ◌==◌, List, length, get_or, find, not, Contains, Some, None, refl, sym, ap, ◌∙◌, subst, inl, inr, arith, eqb-true, eq-eqb}
use Rattle.std.specs.List.{list_any}
use Rattle.std.specs.List.Sorted.{IsPartitionedBy, IsPartitionPoint}
use Rattle.std.proofs.lemmas.Bool.{false≢true, cases_lt, cases_order}
use Rattle.rmap_recs.specs.RmapLaws.{lawful_rmap}
use Rattle.rmap_recs.specs.Runs.{AreTuples, is_tuple_before, tuple_key, goes_on, begins_run, is_same, has}
use Rattle.rmap_recs.specs.declared.tuples.Tuple.{Tuple}
use Rattle.rmap_recs.proofs.RisingLemmas.{any_found, any_here, before_later, same_default, false_by, find_one_by, find_none_by}

pub along : (t u v : Tuple) → is_tuple_before t u ≡ true → is_tuple_before u v ≡ true → is_tuple_before t v ≡ true
along t u v = lawful_rmap.along (tuple_key t) (tuple_key u) (tuple_key v)

pub strict : (t : Tuple) → is_tuple_before t t ≡ false
strict t = lawful_rmap.strict (tuple_key t)

-- the tuples before one that is wanted come first
pub parted : (ts : List Tuple) (t : Tuple) → AreTuples ts → IsPartitionedBy (λ u. is_tuple_before u t) ts
parted ts t rises i j d order within passes = elim (cases_lt i j) [
  | inl below ↦ along (get_or ts i d) (get_or ts j d) t (before_later is_tuple_before along ts rises i j d below within) passes
  | inr above ↦ let same : j ≡ i = omega arith in subst (λ (n : ℕ). is_tuple_before (get_or ts n d) t ≡ true) same passes
]

all_three : (a b c : Bool) → (a && b && c) ≡ true → (a ≡ true) × (b ≡ true) × (c ≡ true)
all_three true true true h = (refl, refl, refl)
all_three true true false h = absurd (false≢true h)
all_three true false c h = absurd (false≢true h)
all_three false b c h = absurd (false≢true h)

pub equal_from_same : (t u : Tuple) → is_same t u ≡ true → t ≡ u
equal_from_same t u h =
    let parts = all_three (t.block == u.block) (t.owner == u.owner) (t.word == u.word) h in
    λ i. record { block = eqb-true t.block u.block parts.0 i; owner = eqb-true t.owner u.owner parts.1 i; word = eqb-true t.word u.word parts.2 i }

pub same_self : (t : Tuple) → is_same t t ≡ true
same_self t = rw (eq-eqb t.block t.block refl, eq-eqb t.owner t.owner refl, eq-eqb t.word t.word refl) refl

pub has_from : (ts : List Tuple) (t : Tuple) → Contains ts t → has ts t ≡ true
has_from ts t c = any_here (is_same t) ts t c (same_self t)

pub from_has : (ts : List Tuple) (t : Tuple) → has ts t ≡ true → Contains ts t
from_has ts t h = let found = any_found (is_same t) ts h in subst (Contains ts) (sym (equal_from_same t found.0 found.2)) found.1

pub one_bool : (a b : Bool) → (a ≡ true → b ≡ true) → (b ≡ true → a ≡ true) → a ≡ b
one_bool true b to back = sym (to refl)
one_bool false true to back = back refl
one_bool false false to back = refl

never : (t : Tuple) → is_tuple_before t t ≡ true → ⊥
never t h = false≢true (sym (strict t) ∙ h)

module _ (ts : List Tuple) (t : Tuple) (rises : AreTuples ts) (place : ℕ) (point : IsPartitionPoint (λ u. is_tuple_before u t ≡ true) (λ u. is_tuple_before u t ≡ false) ts place) where
  -- a tuple that is there stands at the place
  at_the_place : (k : ℕ) → k < length ts → get_or ts k t ≡ t → k ≡ place
  at_the_place k within here = elim (cases_order k place) [
    | inl same ↦ same
    | inr rest ↦ elim rest [
      | inl below ↦ absurd (never t (subst (λ (u : Tuple). is_tuple_before u t ≡ true) here (point.0 k t (omega arith) below)))
      | inr above ↦
          let later : is_tuple_before (get_or ts place t) t ≡ true = subst (λ (u : Tuple). is_tuple_before (get_or ts place t) u ≡ true) here (before_later is_tuple_before along ts rises place k t above within) in
          absurd (false≢true (sym (point.1 place t (omega arith) (omega arith)) ∙ later))
    ]
  ]

  at_place : (u : Tuple) → place < length ts → get_or ts place t ≡ u → is_same t u ≡ has ts t
  at_place u within here = one_bool (is_same t u) (has ts t)
      (λ same. has_from ts t (place, within, here ∙ sym (equal_from_same t u same)))
      (λ found.
      let c = from_has ts t found in
      let k_is : c.0 ≡ place = at_the_place c.0 c.1 c.2 in
      let same : t ≡ u = sym c.2 ∙ ap (λ (n : ℕ). get_or ts n t) k_is ∙ here in
      subst (λ (v : Tuple). is_same t v ≡ true) same (same_self t))

  pub found_there : (d : Tuple) → place < length ts → is_same t (get_or ts place d) ≡ has ts t
  found_there d within = at_place (get_or ts place d) within (same_default ts place t d within)

  pub not_there : length ts ≤ place → has ts t ≡ false
  not_there past = one_bool (has ts t) false
      (λ found. let c = from_has ts t found in absurd (never t (subst (λ (u : Tuple). is_tuple_before u t ≡ true) c.2 (point.0 c.0 t (omega arith) (let within = c.1 in omega arith)))))
      (λ h. absurd (false≢true h))

-- ---- the tuple that goes on, among those that are there

abbrev IsOnly : Tuple → Tuple → Type 0
IsOnly t b = (v : Tuple) → goes_on t v ≡ true → Some b ≡ Some v

only_is : (t b v : Tuple) → IsOnly t b → goes_on t v ≡ true → v ≡ b
only_is t b v only goes = let same = only v goes in cc

pub follower_there : (ts : List Tuple) (t b : Tuple) → has ts b ≡ true → goes_on t b ≡ true → IsOnly t b → find (goes_on t) ts ≡ Some b
follower_there ts t b found goes only = find_one_by (goes_on t) ts b (from_has ts b found) goes (λ v also. only_is t b v only also)

pub follower_missing : (ts : List Tuple) (t b : Tuple) → has ts b ≡ false → IsOnly t b → find (goes_on t) ts ≡ None
follower_missing ts t b missing only = find_none_by (goes_on t) ts (λ v c. false_by (goes_on t v) (λ goes.
    let there : has ts b ≡ true = subst (λ (u : Tuple). has ts u ≡ true) (only_is t b v only goes) (has_from ts v c) in
    false≢true (sym missing ∙ there)))

pub no_follower_at_all : (ts : List Tuple) (t : Tuple) → ((v : Tuple) → goes_on t v ≡ true → ⊥) → find (goes_on t) ts ≡ None
no_follower_at_all ts t none = find_none_by (goes_on t) ts (λ v c. false_by (goes_on t v) (none v))

-- and the one that goes on to a tuple
pub begins_where_none : (ts : List Tuple) (t : Tuple) → ((v : Tuple) → goes_on v t ≡ true → ⊥) → begins_run ts t ≡ true
begins_where_none ts t none = ap not (false_by (list_any (λ u. goes_on u t) ts) (λ h. let found = any_found (λ u. goes_on u t) ts h in none found.0 found.2))

pub begins_where_missing : (ts : List Tuple) (t b : Tuple) → goes_on b t ≡ true → ((v : Tuple) → goes_on v t ≡ true → Some b ≡ Some v) → begins_run ts t ≡ not (has ts b)
begins_where_missing ts t b goes only = ap not (one_bool (list_any (λ u. goes_on u t) ts) (has ts b)
    (λ h.
    let found = any_found (λ u. goes_on u t) ts h in
    let option = only found.0 found.2 in
    let same : found.0 ≡ b = cc in
    has_from ts b (subst (Contains ts) same found.1))
    (λ there. any_here (λ u. goes_on u t) ts b (from_has ts b there) goes))
