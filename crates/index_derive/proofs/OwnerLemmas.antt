-- The owners of a group's blocks, and their maximal runs.
use Rattle.std.proofs.Common.{◌≡◌, ℕ, ◌<◌, ◌⊎◌, Bool, true, false, List, [], ◌∷◌, All, Contains, refl, sym, ◌∙◌, subst, inl, inr, arith}
use Rattle.std.specs.Prelude.{nat_lt, if◌then◌else◌}
use Rattle.std.proofs.lemmas.Bool.{false≢true}
use Rattle.std.proofs.lemmas.Bool.Decides.{nat_tests}
use Rattle.std.proofs.lemmas.List.Elements.{All-contains, All-cons, All-nil}
use Rattle.sblock.specs.Lists.{IsAhead}
use Rattle.rmap_recs.specs.Rmap.{is_first, is_key_before}
use Rattle.rmap_recs.specs.Words.{key_word}
use Rattle.rmap_recs.specs.Runs.{AreRuns, AreTuples, HaveNext, is_same, is_tuple_before, runs_of, tuple_at}
use Rattle.rmap_recs.specs.declared.records.RmapRec.{RmapRec}
use Rattle.rmap_recs.specs.declared.tuples.Tuple.{Tuple}
use Rattle.rmap_recs.proofs.RisingLemmas.{nothing_in, in_front, in_rest, in_either}
use Rattle.rmap_recs.proofs.RunLemmas.{maximal_runs, only_runs}
use Rattle.rmap_recs.proofs.SearchLemmas.{equal_from_same, same_self}
use Rattle.run_edits.specs.EditLaws.{AreUntied}
use Rattle.fs_state.specs.State.{State}
use Rattle.fs_state.specs.Own.{comes_before, own, put_once, rmap_of, set_of}
use Rattle.index_derive.specs.Owners.{AreOrderly, claimed_tuples}

-- ---- the order of tuples

first_weaker : (a b : ℕ) (p q : Bool) → (p ≡ true → q ≡ true) → is_first a b p ≡ true → is_first a b q ≡ true
first_weaker a b true true f h = h
first_weaker a b true false f h = absurd (false≢true (f refl))
first_weaker a b false q f h = grind (arith, nat_tests)

first_against : (a b : ℕ) (p q : Bool) → (p ≡ true → q ≡ false) → is_first a b p ≡ true → is_first b a q ≡ false
first_against a b true true f h = absurd (false≢true (sym (f refl)))
first_against a b true false f h = grind (arith, nat_tests)
first_against a b false q f h = grind (arith, nat_tests)

first_below : (a b : ℕ) (q : Bool) → nat_lt a b ≡ true → is_first a b q ≡ true
first_below a b q h = rw h refl

less_against : (a b : ℕ) (q : Bool) → nat_lt a b ≡ true → is_first b a q ≡ false
less_against a b q h = grind (arith, nat_tests)

first_strict : (a : ℕ) (q : Bool) → q ≡ false → is_first a a q ≡ false
first_strict a q h = grind (arith, nat_tests)

strict_nat : (a : ℕ) → nat_lt a a ≡ false
strict_nat a = grind (arith, nat_tests)

before_comes : (t u : Tuple) → is_tuple_before t u ≡ true → comes_before t u ≡ true
unfolding is_key_before comes_before
before_comes t u h =
    first_weaker t.block u.block _ _ (λ i. first_weaker t.owner u.owner _ _ (λ j. first_below (key_word t.word) (key_word u.word) (nat_lt t.word u.word) j) i) h

before_against : (t u : Tuple) → is_tuple_before t u ≡ true → comes_before u t ≡ false
unfolding is_key_before comes_before
before_against t u h =
    first_against t.block u.block _ _ (λ i. first_against t.owner u.owner _ _ (λ j. less_against (key_word t.word) (key_word u.word) (nat_lt u.word t.word) j) i) h

comes_strict : (t : Tuple) → comes_before t t ≡ false
unfolding comes_before
comes_strict t = first_strict t.block _ (first_strict t.owner _ (first_strict (key_word t.word) _ (strict_nat t.word)))

-- ---- a tuple put in its place

put_has : (t x : Tuple) (us : List Tuple) → Contains (put_once t us) x → (t ≡ x) ⊎ Contains us x
put_has t x [] c = in_either t [] x c
put_has t x (u ∷ us) c = (elim (comes_before t u) as (λ b. Contains (if b then t ∷ u ∷ us else (if is_same t u then u ∷ us else u ∷ put_once t us)) x → (t ≡ x) ⊎ Contains (u ∷ us) x) [
  | true ↦ λ d. in_either t (u ∷ us) x d
  | false ↦ elim (is_same t u) as (λ b. Contains (if b then u ∷ us else u ∷ put_once t us) x → (t ≡ x) ⊎ Contains (u ∷ us) x) [
    | true ↦ λ d. inr d
    | false ↦ λ d. elim (in_either u (put_once t us) x d) [
      | inl is ↦ inr (subst (Contains (u ∷ us)) is (in_front u us))
      | inr e ↦ elim (put_has t x us e) [
        | inl is ↦ inl is
        | inr f ↦ inr (in_rest u us x f)
      ]
    ]
  ]
]) c

put_keeps : (t x : Tuple) (us : List Tuple) → Contains us x → Contains (put_once t us) x
put_keeps t x [] c = absurd (nothing_in x c)
put_keeps t x (u ∷ us) c = elim (comes_before t u) as (λ b. Contains (if b then t ∷ u ∷ us else (if is_same t u then u ∷ us else u ∷ put_once t us)) x) [
  | true ↦ in_rest t (u ∷ us) x c
  | false ↦ elim (is_same t u) as (λ b. Contains (if b then u ∷ us else u ∷ put_once t us) x) [
    | true ↦ c
    | false ↦ elim (in_either u us x c) [
      | inl is ↦ subst (Contains (u ∷ put_once t us)) is (in_front u (put_once t us))
      | inr d ↦ in_rest u (put_once t us) x (put_keeps t x us d)
    ]
  ]
]

put_there : (t : Tuple) (us : List Tuple) → Contains (put_once t us) t
put_there t [] = in_front t []
put_there t (u ∷ us) = elim (comes_before t u) as (λ b. Contains (if b then t ∷ u ∷ us else (if is_same t u then u ∷ us else u ∷ put_once t us)) t) [
  | true ↦ in_front t (u ∷ us)
  | false ↦ (elim (is_same t u) as (λ b. is_same t u ≡ b → Contains (if b then u ∷ us else u ∷ put_once t us) t) [
    | true ↦ λ h. subst (Contains (u ∷ us)) (sym (equal_from_same t u h)) (in_front u us)
    | false ↦ λ h. in_rest u (put_once t us) t (put_there t us)
  ]) refl
]

ahead_put : (u t : Tuple) (us : List Tuple) → is_tuple_before u t ≡ true → IsAhead is_tuple_before u us → IsAhead is_tuple_before u (put_once t us)
ahead_put u t [] h k = h
ahead_put u t (v ∷ vs) h k = elim (comes_before t v) as (λ b. IsAhead is_tuple_before u (if b then t ∷ v ∷ vs else (if is_same t v then v ∷ vs else v ∷ put_once t vs))) [
  | true ↦ h
  | false ↦ elim (is_same t v) as (λ b. IsAhead is_tuple_before u (if b then v ∷ vs else v ∷ put_once t vs)) [ true ↦ k | false ↦ k ]
]

-- two different tuples of which one comes first by its key
abbrev Differ : Tuple → Tuple → Type 0
Differ t u = (t ≡ u) ⊎ ((is_tuple_before t u ≡ true) ⊎ (is_tuple_before u t ≡ true))

in_front_of : (t u : Tuple) → Differ t u → comes_before t u ≡ true → is_tuple_before t u ≡ true
in_front_of t u (inl is) h = absurd (false≢true (sym (comes_strict t) ∙ subst (λ (x : Tuple). comes_before t x ≡ true) (sym is) h))
in_front_of t u (inr (inl before)) h = before
in_front_of t u (inr (inr behind)) h = absurd (false≢true (sym (before_against u t behind) ∙ h))

behind_it : (t u : Tuple) → Differ t u → comes_before t u ≡ false → is_same t u ≡ false → is_tuple_before u t ≡ true
behind_it t u (inl is) h k = absurd (false≢true (sym k ∙ subst (λ (x : Tuple). is_same t x ≡ true) is (same_self t)))
behind_it t u (inr (inl before)) h k = absurd (false≢true (sym h ∙ before_comes t u before))
behind_it t u (inr (inr behind)) h k = behind

put_rises : (t : Tuple) (us : List Tuple) → AreTuples us → ((u : Tuple) → Contains us u → Differ t u) → AreTuples (put_once t us)
put_rises t [] rises differ = (tt, tt)
put_rises t (u ∷ us) rises differ = (elim (comes_before t u) as (λ b. comes_before t u ≡ b → AreTuples (if b then t ∷ u ∷ us else (if is_same t u then u ∷ us else u ∷ put_once t us))) [
  | true ↦ λ h. (in_front_of t u (differ u (in_front u us)) h, rises)
  | false ↦ λ h. (elim (is_same t u) as (λ b. is_same t u ≡ b → AreTuples (if b then u ∷ us else u ∷ put_once t us)) [
    | true ↦ λ k. rises
    | false ↦ λ k. (ahead_put u t us (behind_it t u (differ u (in_front u us)) h k) rises.0, put_rises t us rises.1 (λ v c. differ v (in_rest u us v c)))
  ]) refl
]) refl

-- ---- the set of some tuples

pub set_has : (x : Tuple) (ts : List Tuple) → Contains (set_of ts) x → Contains ts x
set_has x [] c = c
set_has x (t ∷ ts) c = elim (put_has t x (set_of ts) c) [
  | inl is ↦ subst (Contains (t ∷ ts)) is (in_front t ts)
  | inr d ↦ in_rest t ts x (set_has x ts d)
]

pub set_keeps : (x : Tuple) (ts : List Tuple) → Contains ts x → Contains (set_of ts) x
set_keeps x [] c = c
set_keeps x (t ∷ ts) c = elim (in_either t ts x c) [
  | inl is ↦ subst (Contains (put_once t (set_of ts))) is (put_there t (set_of ts))
  | inr d ↦ put_keeps t x (set_of ts) (set_keeps x ts d)
]

set_rises : (ts : List Tuple) → AreUntied ts → AreTuples (set_of ts)
set_rises [] untied = tt
set_rises (t ∷ ts) untied =
    put_rises t (set_of ts) (set_rises ts (λ u v c d. untied u v (in_rest t ts u c) (in_rest t ts v d)))
    (λ u c. untied t u (in_front t ts) (in_rest t ts u (set_has u ts c)))

All_from : (P : Tuple → Type 0) (ts us : List Tuple) → All P ts → ((x : Tuple) → Contains us x → Contains ts x) → All P us
All_from P ts [] all back = All-nil P
All_from P ts (u ∷ us) all back = All-cons P u us (All-contains P ts u all (back u (in_front u us))) (All_from P ts us all (λ x c. back x (in_rest u us x c)))

own_next : (ts : List Tuple) → HaveNext ts → HaveNext (set_of ts)
own_next ts next = All_from (λ t. t.block < 4294967295) ts (set_of ts) next (λ x c. set_has x ts c)

-- ---- runs of the same tuples

runs_move : (ts us : List Tuple) (recs : List RmapRec) → ((x : Tuple) → Contains ts x → Contains us x) → ((x : Tuple) → Contains us x → Contains ts x) → AreRuns ts recs → AreRuns us recs
runs_move ts us recs to back runs = record {
  maximal = λ r c. let m = runs.maximal r c in record {
    some = m.some;
    within = λ i lt. to (tuple_at r i) (m.within i lt);
    consecutive = m.consecutive;
    first = λ t d. m.first t (back t d);
    last = λ t d. m.last t (back t d);
  };
  all = λ t c. runs.all t (back t c);
  rising = runs.rising;
}

module _ (a : State) (g : ℕ) (orderly : AreOrderly (claimed_tuples a g)) where
  own_runs : AreRuns (own a g) (rmap_of a g)
  unfolding own rmap_of
  own_runs = maximal_runs (set_of (claimed_tuples a g)) (runs_of (set_of (claimed_tuples a g))) refl (set_rises (claimed_tuples a g) orderly.untied) (own_next (claimed_tuples a g) orderly.next)

  pub claimed_runs : AreRuns (claimed_tuples a g) (rmap_of a g)
  unfolding own
  claimed_runs = runs_move (own a g) (claimed_tuples a g) (rmap_of a g) (λ x c. set_has x (claimed_tuples a g) c) (λ x c. set_keeps x (claimed_tuples a g) c) own_runs

  pub only_claimed : (recs : List RmapRec) → AreRuns (claimed_tuples a g) recs → recs ≡ rmap_of a g
  only_claimed recs runs = only_runs (claimed_tuples a g) recs (rmap_of a g) runs claimed_runs

  pub runs_if : (recs : List RmapRec) → recs ≡ rmap_of a g → AreRuns (claimed_tuples a g) recs
  runs_if recs is = subst (AreRuns (claimed_tuples a g)) (sym is) claimed_runs
