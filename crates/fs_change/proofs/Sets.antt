-- Sets of tuples as lists that rise: two with the same members are one.
use Rattle.std.proofs.Common.{◌≡◌, ℕ, ◌==◌, ◌&&◌, ◌||◌, ◌⊎◌, Bool, true, false, cond, nat_lt, List, [], ◌∷◌, ◌++◌, filter, Contains, refl, sym, ap, subst, ◌∙◌, inl, inr, arith}
use Rattle.std.proofs.lemmas.Bool.{false≢true, true≢false, eqb-true, eq-eqb}
use Rattle.std.proofs.lemmas.Bool.Decides.{nat_tests}
use Rattle.std.specs.List.{list_any}
use Rattle.rmap_recs.proofs.RisingLemmas.{nothing_in, in_front, in_rest, in_either, any_found, any_here, one_rising}
use Rattle.rmap_recs.specs.Rmap.{is_first}
use Rattle.rmap_recs.specs.Runs.{is_same, has}
use Rattle.rmap_recs.specs.Words.{key_word}
use Rattle.rmap_recs.specs.declared.tuples.Tuple.{Tuple}
use Rattle.sblock.specs.Lists.{IsAhead, Rises}
use Rattle.fs_state.specs.Own.{comes_before, put_once, set_of}
use Rattle.fs_change.specs.Laws.{OneSet}

-- ---- the order

strict_nat : (a : ℕ) → nat_lt a a ≡ false
strict_nat a = grind (arith, nat_tests)

along_nat : (a b c : ℕ) → nat_lt a b ≡ true → nat_lt b c ≡ true → nat_lt a c ≡ true
along_nat a b c h i = grind (arith, nat_tests)

strict_first : (a : ℕ) (rest : Bool) → rest ≡ false → is_first a a rest ≡ false
strict_first a rest h = grind (arith, nat_tests)

along_first : (a b c : ℕ) (p q r : Bool) → (p ≡ true → q ≡ true → r ≡ true) → is_first a b p ≡ true → is_first b c q ≡ true → is_first a c r ≡ true
along_first a b c true true true f h i = grind (arith, nat_tests)
along_first a b c true true false f h i = let bad : false ≡ true = f refl refl in absurd (false≢true bad)
along_first a b c true false r f h i = grind (arith, nat_tests)
along_first a b c false q r f h i = grind (arith, nat_tests)

strict : (t : Tuple) → comes_before t t ≡ false
unfolding comes_before
strict t = strict_first t.block _ (strict_first t.owner _ (strict_first (key_word t.word) _ (strict_nat t.word)))

along : (t u v : Tuple) → comes_before t u ≡ true → comes_before u v ≡ true → comes_before t v ≡ true
unfolding comes_before
along t u v h i =
    along_first t.block u.block v.block _ _ _
    (λ j k. along_first t.owner u.owner v.owner _ _ _ (λ l m. along_first (key_word t.word) (key_word u.word) (key_word v.word) _ _ _ (λ n o. along_nat t.word u.word v.word n o) l m) j k) h i

pub order : (a b : ℕ) → (nat_lt a b ≡ true) ⊎ ((nat_lt b a ≡ true) ⊎ (a ≡ b))
order a b = (elim (nat_lt a b) as (λ x. nat_lt a b ≡ x → (nat_lt a b ≡ true) ⊎ ((nat_lt b a ≡ true) ⊎ (a ≡ b))) [
  | true ↦ λ h. inl h
  | false ↦ λ h. (elim (nat_lt b a) as (λ x. nat_lt b a ≡ x → (nat_lt a b ≡ true) ⊎ ((nat_lt b a ≡ true) ⊎ (a ≡ b))) [
    | true ↦ λ i. inr (inl i)
    | false ↦ λ i. inr (inr (grind (arith, nat_tests)))
  ]) refl
]) refl

first_before : (a b : ℕ) (p : Bool) → nat_lt a b ≡ true → is_first a b p ≡ true
first_before a b p h = grind (arith, nat_tests)

first_same : (a b : ℕ) (p : Bool) → a ≡ b → p ≡ true → is_first a b p ≡ true
first_same a b p h i = grind (arith, nat_tests)

-- of two numbers with something behind them one comes first, or they are the same and so is what stands behind
either_first : (S : Type 0) (a b : ℕ) (p q : Bool) → (p ≡ true) ⊎ ((q ≡ true) ⊎ S) → (is_first a b p ≡ true) ⊎ ((is_first b a q ≡ true) ⊎ ((a ≡ b) × S))
either_first S a b p q rest = elim (order a b) [
  | inl h ↦ inl (first_before a b p h)
  | inr h ↦ elim h [
    | inl i ↦ inr (inl (first_before b a q i))
    | inr same ↦ elim rest [
      | inl j ↦ inl (first_same a b p same j)
      | inr j ↦ elim j [
        | inl k ↦ inr (inl (first_same b a q (sym same) k))
        | inr s ↦ inr (inr (same, s))
      ]
    ]
  ]
]

either_before : (t u : Tuple) → (comes_before t u ≡ true) ⊎ ((comes_before u t ≡ true) ⊎ ((t.block ≡ u.block) × ((t.owner ≡ u.owner) × ((key_word t.word ≡ key_word u.word) × (t.word ≡ u.word)))))
unfolding comes_before
either_before t u =
    either_first _ t.block u.block _ _ (either_first _ t.owner u.owner _ _ (either_first _ (key_word t.word) (key_word u.word) _ _ (order t.word u.word)))

both_true : (a b c : Bool) → a ≡ true → b ≡ true → c ≡ true → (a && b && c) ≡ true
both_true a b c h i j = grind (arith)

same_test : (t u : Tuple) → t.block ≡ u.block → t.owner ≡ u.owner → t.word ≡ u.word → is_same t u ≡ true
same_test t u h i j = both_true (t.block == u.block) (t.owner == u.owner) (t.word == u.word) (eq-eqb t.block u.block h) (eq-eqb t.owner u.owner i) (eq-eqb t.word u.word j)

-- what neither comes before another nor is the same comes behind it
comes_behind : (t u : Tuple) → comes_before t u ≡ false → is_same t u ≡ false → comes_before u t ≡ true
comes_behind t u h i = elim (either_before t u) [
  | inl j ↦ absurd (true≢false (sym j ∙ h))
  | inr j ↦ elim j [
    | inl k ↦ k
    | inr k ↦ absurd (true≢false (sym (same_test t u k.0 k.1.0 k.1.1.1) ∙ i))
  ]
]

-- ---- the test for the same tuple

three_parts : (a b c : Bool) → (a && b && c) ≡ true → (a ≡ true) × (b ≡ true) × (c ≡ true)
three_parts true true true h = (refl, refl, refl)
three_parts true true false h = absurd (false≢true h)
three_parts true false c h = absurd (false≢true h)
three_parts false b c h = absurd (false≢true h)

pub same_is : (t u : Tuple) → is_same t u ≡ true → t ≡ u
same_is t u h =
    let parts = three_parts (t.block == u.block) (t.owner == u.owner) (t.word == u.word) h in
    let block : t.block ≡ u.block = eqb-true t.block u.block parts.0 in
    let owner : t.owner ≡ u.owner = eqb-true t.owner u.owner parts.1 in
    let word : t.word ≡ u.word = eqb-true t.word u.word parts.2 in
    λ i. record { block = block i; owner = owner i; word = word i }

pub same_self : (t : Tuple) → is_same t t ≡ true
same_self t = same_test t t refl refl refl

pub has_of : (ts : List Tuple) (t : Tuple) → Contains ts t → has ts t ≡ true
has_of ts t c = any_here (is_same t) ts t c (same_self t)

pub of_has : (ts : List Tuple) (t : Tuple) → has ts t ≡ true → Contains ts t
of_has ts t h =
    let found = any_found (is_same t) ts h in
    subst (Contains ts) (sym (same_is t found.0 found.2)) found.1

-- ---- put_once

there : (t : Tuple) (us : List Tuple) → Contains (put_once t us) t
there t [] = in_front t []
there t (u ∷ us) = elim (comes_before t u) as (λ b. Contains (cond b (t ∷ u ∷ us) (cond (is_same t u) (u ∷ us) (u ∷ put_once t us))) t) [
  | true ↦ in_front t (u ∷ us)
  | false ↦ (elim (is_same t u) as (λ b. is_same t u ≡ b → Contains (cond b (u ∷ us) (u ∷ put_once t us)) t) [
    | true ↦ λ h. subst (Contains (u ∷ us)) (sym (same_is t u h)) (in_front u us)
    | false ↦ λ h. in_rest u (put_once t us) t (there t us)
  ]) refl
]

kept : (t : Tuple) (us : List Tuple) (x : Tuple) → Contains us x → Contains (put_once t us) x
kept t [] x c = absurd (nothing_in x c)
kept t (u ∷ us) x c = elim (comes_before t u) as (λ b. Contains (cond b (t ∷ u ∷ us) (cond (is_same t u) (u ∷ us) (u ∷ put_once t us))) x) [
  | true ↦ in_rest t (u ∷ us) x c
  | false ↦ elim (is_same t u) as (λ b. Contains (cond b (u ∷ us) (u ∷ put_once t us)) x) [
    | true ↦ c
    | false ↦ elim (in_either u us x c) [
      | inl here ↦ subst (Contains (u ∷ put_once t us)) here (in_front u (put_once t us))
      | inr later ↦ in_rest u (put_once t us) x (kept t us x later)
    ]
  ]
]

only : (t : Tuple) (us : List Tuple) (x : Tuple) → Contains (put_once t us) x → (t ≡ x) ⊎ Contains us x
only t [] x c = in_either t [] x c
only t (u ∷ us) x c = (elim (comes_before t u) as (λ b. Contains (cond b (t ∷ u ∷ us) (cond (is_same t u) (u ∷ us) (u ∷ put_once t us))) x → (t ≡ x) ⊎ Contains (u ∷ us) x) [
  | true ↦ λ d. in_either t (u ∷ us) x d
  | false ↦ elim (is_same t u) as (λ b. Contains (cond b (u ∷ us) (u ∷ put_once t us)) x → (t ≡ x) ⊎ Contains (u ∷ us) x) [
    | true ↦ λ d. inr d
    | false ↦ λ d. elim (in_either u (put_once t us) x d) [
      | inl here ↦ inr (subst (Contains (u ∷ us)) here (in_front u us))
      | inr later ↦ elim (only t us x later) [ inl same ↦ inl same | inr more ↦ inr (in_rest u us x more) ]
    ]
  ]
]) c

put_ahead : (a t : Tuple) (us : List Tuple) → comes_before a t ≡ true → IsAhead comes_before a us → IsAhead comes_before a (put_once t us)
put_ahead a t [] h ahead = h
put_ahead a t (u ∷ us) h ahead = elim (comes_before t u) as (λ b. IsAhead comes_before a (cond b (t ∷ u ∷ us) (cond (is_same t u) (u ∷ us) (u ∷ put_once t us)))) [
  | true ↦ h
  | false ↦ elim (is_same t u) as (λ b. IsAhead comes_before a (cond b (u ∷ us) (u ∷ put_once t us))) [ true ↦ ahead | false ↦ ahead ]
]

put_rises : (t : Tuple) (us : List Tuple) → Rises comes_before us → Rises comes_before (put_once t us)
put_rises t [] r = (tt, tt)
put_rises t (u ∷ us) r = (elim (comes_before t u) as (λ b. comes_before t u ≡ b → Rises comes_before (cond b (t ∷ u ∷ us) (cond (is_same t u) (u ∷ us) (u ∷ put_once t us)))) [
  | true ↦ λ h. (h, r)
  | false ↦ λ h. (elim (is_same t u) as (λ b. is_same t u ≡ b → Rises comes_before (cond b (u ∷ us) (u ∷ put_once t us))) [
    | true ↦ λ i. r
    | false ↦ λ i. (put_ahead u t us (comes_behind t u h i) r.0, put_rises t us r.1)
  ]) refl
]) refl

-- ---- the set of a list

set_rises : (ts : List Tuple) → Rises comes_before (set_of ts)
set_rises [] = tt
set_rises (t ∷ ts) = put_rises t (set_of ts) (set_rises ts)

in_set : (ts : List Tuple) (x : Tuple) → Contains ts x → Contains (set_of ts) x
in_set [] x c = absurd (nothing_in x c)
in_set (t ∷ ts) x c = elim (in_either t ts x c) [
  | inl here ↦ subst (Contains (set_of (t ∷ ts))) here (there t (set_of ts))
  | inr later ↦ kept t (set_of ts) x (in_set ts x later)
]

of_set : (ts : List Tuple) (x : Tuple) → Contains (set_of ts) x → Contains ts x
of_set [] x c = absurd (nothing_in x c)
of_set (t ∷ ts) x c = elim (only t (set_of ts) x c) [
  | inl here ↦ subst (Contains (t ∷ ts)) here (in_front t ts)
  | inr later ↦ in_rest t ts x (of_set ts x later)
]

crossing : (ts us : List Tuple) → ((t : Tuple) → has ts t ≡ has us t) → (x : Tuple) → Contains (set_of ts) x → Contains (set_of us) x
crossing ts us same x c = in_set us x (of_has us x (sym (same x) ∙ has_of ts x (of_set ts x c)))

pub one_set : OneSet
one_set ts us same = one_rising comes_before along strict (set_of ts) (set_of us) (set_rises ts) (set_rises us) (crossing ts us same) (crossing us ts (λ t. sym (same t)))

-- ---- membership by tests

both_ways : (a b : Bool) → (a ≡ true → b ≡ true) → (b ≡ true → a ≡ true) → a ≡ b
both_ways true true f g = refl
both_ways true false f g = sym (f refl)
both_ways false true f g = g refl
both_ways false false f g = refl

pub has_set : (ts : List Tuple) (t : Tuple) → has (set_of ts) t ≡ has ts t
has_set ts t = both_ways _ _ (λ h. has_of ts t (of_set ts t (of_has (set_of ts) t h))) (λ h. has_of (set_of ts) t (in_set ts t (of_has ts t h)))

or_again : (a b c : Bool) → (a || (b || c)) ≡ ((a || b) || c)
or_again true b c = refl
or_again false b c = refl

pub has_both : (ts us : List Tuple) (t : Tuple) → has (ts ++ us) t ≡ (has ts t || has us t)
has_both [] us t = refl
has_both (x ∷ ts) us t = ap (λ b. is_same t x || b) (has_both ts us t) ∙ or_again (is_same t x) (has ts t) (has us t)

-- a test that speaks of the head by what is the same as it
passes : (s px pt f h : Bool) → (s ≡ true → px ≡ pt) → f ≡ (h && px) → cond pt (s || f) f ≡ ((s || h) && px)
passes true px true f h same rest = sym (same refl)
passes true px false f h same rest = rest ∙ ap (λ b. h && b) (same refl) ∙ none h ∙ sym (same refl)
  where
    none : (b : Bool) → (b && false) ≡ false
    none true = refl
    none false = refl
passes false px true f h same rest = rest
passes false px false f h same rest = rest

any_cond : (p : Tuple → Bool) (b : Bool) (x : Tuple) (xs : List Tuple) → list_any p (cond b (x ∷ xs) xs) ≡ cond b (p x || list_any p xs) (list_any p xs)
any_cond p true x xs = refl
any_cond p false x xs = refl

pub has_passing : (p : Tuple → Bool) (ts : List Tuple) (t : Tuple) → has (filter p ts) t ≡ (has ts t && p t)
has_passing p [] t = refl
has_passing p (x ∷ ts) t =
    any_cond (is_same t) (p x) x (filter p ts)
    ∙ passes (is_same t x) (p t) (p x) (has (filter p ts) t) (has ts t) (λ h. ap p (same_is t x h)) (has_passing p ts t)
