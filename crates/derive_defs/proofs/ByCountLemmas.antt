-- Free space ordered by count and then start.
use Rattle.std.proofs.Common.{◌≡◌, ℕ, suc, ◌+◌, ◌-◌, ◌<◌, ◌≤◌, Bool, true, false, cond, eqb, not, ◌&&◌, ◌||◌, List, [], ◌∷◌, length, get_or, refl, ap, subst, sym, ◌∙◌, arith, inl, inr}
use Rattle.std.specs.Prelude.{nat_lt, sum_by}
use Rattle.std.specs.List.{All}
use Rattle.std.specs.List.Sorted.{IsPermutation, IsSortedByKey}
use Rattle.std.specs.Fn.{Called, ComputesKey, Mut}
use Rattle.std.specs.Ordering.{is_lt, nat_cmp, ordering_then}
use Rattle.std.specs.declared.cmp.Ordering.{Ordering}
use Rattle.std.specs.declared.cmp.Ordering.TheVariants.{Less, Equal, Greater}
use Rattle.std.proofs.lemmas.Bool.{cases_Bool, eq-eqb, ne_eqb, ltb-true, false≢true}
use Rattle.std.proofs.lemmas.Bool.Decides.{nat_tests}
use Rattle.std.proofs.lemmas.Fn.{always_returns_same}
use Rattle.std.proofs.lemmas.List.Elements.{All-cons, All-nil}
use Rattle.std.proofs.lemmas.List.Sorted.{All-permutation, Contains-permutation, IsPermutation-cons, IsPermutation-middle, IsPermutation-refl, IsPermutation-sym, IsPermutation-trans, sum_by-IsPermutation}
use Rattle.std.proofs.lemmas.List.Sums.{sum_by-cons}
use Rattle.rmap_recs.proofs.RisingLemmas.{one_rising}
use Rattle.sblock.specs.Blocks.{IsRising}
use Rattle.sblock.specs.Lists.{IsAhead, Rises, Each}
use Rattle.span_recs.specs.Spans.{is_before_by_start, is_before_by_count, bno_form}
use Rattle.span_recs.specs.SpanLaws.{lawful_cnt}
use Rattle.span_recs.specs.declared.span.SpanRec.{SpanRec}
use Rattle.derive_defs.specs.ByCount.{AreByCount, greatest, ordered_by_count, put_in}
use denote.Ref.{Bor}

-- ---- what the sort asks and gives

abbrev pub key_of : SpanRec → ℕ × ℕ
key_of r = (r.count, r.start)

abbrev pub key_cmp : ℕ × ℕ → ℕ × ℕ → Ordering
key_cmp x y = ordering_then (nat_cmp x.0 y.0) (nat_cmp x.1 y.1)

-- the order of the keys is that of the btree
keys_compare : (l e m n : Bool) → is_lt (ordering_then (cond l Less (cond e Equal Greater)) (cond m Less (cond n Equal Greater))) ≡ (l || (e && m))
keys_compare true e m n = refl
keys_compare false true true n = refl
keys_compare false true false true = refl
keys_compare false true false false = refl
keys_compare false false m n = refl

lt_is_before : (a b : SpanRec) → is_lt (key_cmp (key_of a) (key_of b)) ≡ is_before_by_count a b
unfolding is_before_by_count
lt_is_before a b = keys_compare (nat_lt a.count b.count) (eqb a.count b.count) (nat_lt a.start b.start) (eqb a.start b.start)

-- no record comes before the one in front of it
abbrev pub NoneBefore : List SpanRec → Type 0
NoneBefore recs = (k : ℕ) (d : SpanRec) → k + 1 < length recs → is_before_by_count (get_or recs (k + 1) d) (get_or recs k d) ≡ false

pub sorted_by_key : {F : Type 0} {g : Mut F (Bor SpanRec × Unit {0}) (ℕ × ℕ)} {f : F} (recs : List SpanRec)
    → ((key : SpanRec → ℕ × ℕ) → ComputesKey g key f → IsSortedByKey key key_cmp recs)
    → ((a : Bor SpanRec × Unit {0}) (r : ℕ × ℕ) (f' : F) → Called g f a r f' → (r ≡ key_of a.0.now) × (f' ≡ f)) → NoneBefore recs
sorted_by_key {g = g} {f = f} recs up h k d lt =
    sym (lt_is_before (get_or recs (k + 1) d) (get_or recs k d)) ∙ up key_of (always_returns_same g (λ a r. r ≡ key_of a.0.now) f h) k d (omega arith) lt

-- ---- no two records begin at one block

-- 1 for a record that begins at the block
abbrev at_block : ℕ → SpanRec → ℕ
at_block s r = cond (eqb r.start s) 1 0

begins : (s : ℕ) (r : SpanRec) → r.start ≡ s → at_block s r ≡ 1
begins s r is = let here : eqb r.start s ≡ true = eq-eqb r.start s is in rw here refl

begins_not : (s : ℕ) (r : SpanRec) → (r.start ≡ s → ⊥) → at_block s r ≡ 0
begins_not s r ne = let here : eqb r.start s ≡ false = ne_eqb r.start s ne in rw here refl

at_most_one : (s : ℕ) (r : SpanRec) → at_block s r ≤ 1
at_most_one s r = elim (eqb r.start s) as (λ b. cond {A = ℕ} b 1 0 ≤ 1) [ true ↦ omega arith | false ↦ omega arith ]

none_behind : (s : ℕ) (r : SpanRec) (recs : List SpanRec) → Rises is_before_by_start (r ∷ recs) → s ≤ r.start → sum_by (at_block s) recs ≡ 0
none_behind s r [] rises le = refl
none_behind s r (x ∷ recs) rises le =
    let above = ltb-true r.start x.start rises.0 in
    let here = begins_not s x (λ is. omega (arith, is, above, le)) in
    let rest = none_behind s x recs rises.1 (omega (arith, above, le)) in
    omega (arith, sum_by-cons (at_block s) x recs, here, rest)

one_begins : (s : ℕ) (recs : List SpanRec) → Rises is_before_by_start recs → sum_by (at_block s) recs ≤ 1
one_begins s [] rises = omega arith
one_begins s (r ∷ recs) rises = elim (cases_Bool (eqb r.start s)) [
  | inl here ↦
      let rest = none_behind s r recs rises (start_le here) in
      omega (arith, sum_by-cons (at_block s) r recs, at_most_one s r, rest)
  | inr other ↦
      let none : at_block s r ≡ 0 = rw other refl in
      let rest = one_begins s recs rises.1 in
      omega (arith, sum_by-cons (at_block s) r recs, none, rest)
]
  where
    start_le : eqb r.start s ≡ true → s ≤ r.start
    start_le h = grind (arith, nat_tests)

-- ---- and so no two are the same in the order

before_next : (a b : SpanRec) → (a.start ≡ b.start → ⊥) → is_before_by_count b a ≡ false → is_before_by_count a b ≡ true
unfolding is_before_by_count
before_next a b ne behind = grind (arith, nat_tests)

other_start : (a b : SpanRec) (recs : List SpanRec) → ((s : ℕ) → sum_by (at_block s) (a ∷ b ∷ recs) ≤ 1) → a.start ≡ b.start → ⊥
other_start a b recs once is =
    let s : ℕ = b.start in
    let first = begins s a is in
    let second = begins s b refl in
    omega (arith, once s, sum_by-cons (at_block s) a (b ∷ recs), sum_by-cons (at_block s) b recs, first, second)

rest_once : (a : SpanRec) (recs : List SpanRec) → ((s : ℕ) → sum_by (at_block s) (a ∷ recs) ≤ 1) → (s : ℕ) → sum_by (at_block s) recs ≤ 1
rest_once a recs once s = omega (arith, once s, sum_by-cons (at_block s) a recs)

-- the second record doesn't come before the first
abbrev in_order : SpanRec → SpanRec → Bool
in_order a b = not (is_before_by_count b a)

order_if_none : (recs : List SpanRec) → NoneBefore recs → Rises in_order recs
order_if_none [] h = tt
order_if_none (a ∷ []) h = (tt, tt)
order_if_none (a ∷ b ∷ recs) h = (
  ap not (h 0 a (omega arith)),
  order_if_none (b ∷ recs) (λ k d lt.
      let next : suc k + 1 ≡ suc (k + 1) = omega arith in
      subst (λ (j : ℕ). is_before_by_count (get_or (a ∷ b ∷ recs) j d) (get_or (b ∷ recs) k d) ≡ false) next (h (suc k) d (omega (arith, lt)))),
)

not_before : (a b : SpanRec) → in_order a b ≡ true → is_before_by_count b a ≡ false
not_before a b h = either (is_before_by_count b a) h
  where
    either : (t : Bool) → not t ≡ true → t ≡ false
    either true h = absurd (false≢true h)
    either false h = refl

rise_if_sorted : (recs : List SpanRec) → Rises in_order recs → ((s : ℕ) → sum_by (at_block s) recs ≤ 1) → Rises is_before_by_count recs
rise_if_sorted [] sorted once = tt
rise_if_sorted (a ∷ []) sorted once = (tt, tt)
rise_if_sorted (a ∷ b ∷ recs) sorted once = (
  before_next a b (other_start a b recs once) (not_before a b sorted.0),
  rise_if_sorted (b ∷ recs) sorted.1 (rest_once a (b ∷ recs) once),
)

are_ordered : (free recs : List SpanRec) → IsRising bno_form free → IsPermutation free recs → Rises in_order recs → AreByCount free recs
are_ordered free recs rises same sorted = record {
  same = same;
  rising = rise_if_sorted recs sorted (λ s. let kept = sum_by-IsPermutation (at_block s) free recs same in let once = one_begins s free rises in omega (arith, kept, once));
}

pub are_by_count : (free recs : List SpanRec) → IsRising bno_form free → IsPermutation free recs → NoneBefore recs → AreByCount free recs
are_by_count free recs rises same sorted = are_ordered free recs rises same (order_if_none recs sorted)

-- ---- a record put at its place

exchanged : (a b : SpanRec) (recs : List SpanRec) → IsPermutation (a ∷ b ∷ recs) (b ∷ a ∷ recs)
exchanged a b recs = IsPermutation-middle (a ∷ []) b recs

put_same : (r : SpanRec) (recs : List SpanRec) → IsPermutation (r ∷ recs) (put_in r recs)
put_same r [] = IsPermutation-refl (r ∷ [])
put_same r (s ∷ recs) = elim (is_before_by_count s r) as (λ t. IsPermutation (r ∷ s ∷ recs) (cond t (s ∷ put_in r recs) (r ∷ s ∷ recs))) [
  | true ↦ IsPermutation-trans (r ∷ s ∷ recs) (s ∷ r ∷ recs) (s ∷ put_in r recs) (exchanged r s recs) (IsPermutation-cons s (r ∷ recs) (put_in r recs) (put_same r recs))
  | false ↦ IsPermutation-refl (r ∷ s ∷ recs)
]

put_ahead : (a r : SpanRec) (recs : List SpanRec) → in_order a r ≡ true → IsAhead in_order a recs → IsAhead in_order a (put_in r recs)
put_ahead a r [] here ahead = here
put_ahead a r (s ∷ recs) here ahead = elim (is_before_by_count s r) as (λ t. IsAhead in_order a (cond t (s ∷ put_in r recs) (r ∷ s ∷ recs))) [ true ↦ ahead | false ↦ here ]

-- of two records only one comes before the other
one_way : (a b : SpanRec) → is_before_by_count a b ≡ true → in_order a b ≡ true
one_way a b before = either (is_before_by_count b a) refl
  where
    either : (t : Bool) → is_before_by_count b a ≡ t → not t ≡ true
    either true back = absurd (false≢true (sym (lawful_cnt.strict a) ∙ lawful_cnt.along a b a before back))
    either false back = refl

put_sorted : (r : SpanRec) (recs : List SpanRec) → Rises in_order recs → Rises in_order (put_in r recs)
put_sorted r [] sorted = (tt, tt)
put_sorted r (s ∷ recs) sorted = either (is_before_by_count s r) refl (put_sorted r recs sorted.1)
  where
    either : (t : Bool) → is_before_by_count s r ≡ t → Rises in_order (put_in r recs) → Rises in_order (cond t (s ∷ put_in r recs) (r ∷ s ∷ recs))
    either true before rest = (put_ahead s r recs (one_way s r before) sorted.0, rest)
    either false before rest = (ap not before, sorted)

ordered_same : (free : List SpanRec) → IsPermutation free (ordered_by_count free)
unfolding ordered_by_count
ordered_same [] = IsPermutation-refl []
ordered_same (r ∷ free) =
    IsPermutation-trans (r ∷ free) (r ∷ ordered_by_count free) (put_in r (ordered_by_count free))
    (IsPermutation-cons r free (ordered_by_count free) (ordered_same free)) (put_same r (ordered_by_count free))

ordered_sorted : (free : List SpanRec) → Rises in_order (ordered_by_count free)
unfolding ordered_by_count
ordered_sorted [] = tt
ordered_sorted (r ∷ free) = put_sorted r (ordered_by_count free) (ordered_sorted free)

-- ---- only one list

one_by_count : (free recs others : List SpanRec) → AreByCount free recs → AreByCount free others → recs ≡ others
one_by_count free recs others left right =
    one_rising is_before_by_count lawful_cnt.along lawful_cnt.strict recs others left.rising right.rising
    (λ r has. Contains-permutation free others r right.same (Contains-permutation recs free r (IsPermutation-sym free recs left.same) has))
    (λ r has. Contains-permutation free recs r left.same (Contains-permutation others free r (IsPermutation-sym free others right.same) has))

own : (free : List SpanRec) → IsRising bno_form free → AreByCount free (ordered_by_count free)
own free rises = are_ordered free (ordered_by_count free) rises (ordered_same free) (ordered_sorted free)

pub only_by_count : (free recs : List SpanRec) → IsRising bno_form free → AreByCount free recs → recs ≡ ordered_by_count free
only_by_count free recs rises h = one_by_count free recs (ordered_by_count free) h (own free rises)

pub by_count_if_only : (free recs : List SpanRec) → IsRising bno_form free → recs ≡ ordered_by_count free → AreByCount free recs
by_count_if_only free recs rises is = subst (AreByCount free) (sym is) (own free rises)

-- ---- their range

each_all : (test : SpanRec → Bool) (recs : List SpanRec) → Each test recs → All (λ r. test r ≡ true) recs
each_all test [] each = All-nil (λ (r : SpanRec). test r ≡ true)
each_all test (r ∷ recs) each = All-cons (λ (x : SpanRec). test x ≡ true) r recs each.0 (each_all test recs each.1)

all_each : (test : SpanRec → Bool) (recs : List SpanRec) → All (λ r. test r ≡ true) recs → Each test recs
all_each test [] all = tt
all_each test (r ∷ recs) all = (all 0 r (omega arith), all_each test recs (λ k d lt. all (suc k) d (omega (arith, lt))))

pub each_kept : (test : SpanRec → Bool) (free recs : List SpanRec) → IsPermutation free recs → Each test free → Each test recs
each_kept test free recs same each = all_each test recs (All-permutation (λ (r : SpanRec). test r ≡ true) free recs same (each_all test free each))

-- ---- the greatest count

count_le : (a b : SpanRec) → is_before_by_count a b ≡ true → a.count ≤ b.count
unfolding is_before_by_count
count_le a b before = grind (arith, nat_tests)

-- the last record has it
pub last_is_greatest : (recs : List SpanRec) (d : SpanRec) → Rises is_before_by_count recs → 0 < length recs → (get_or recs (length recs - 1) d).count ≡ greatest recs
last_is_greatest [] d rises some = absurd (omega arith)
last_is_greatest (a ∷ []) d rises some = omega arith
last_is_greatest (a ∷ b ∷ recs) d rises some =
    let rest = last_is_greatest (b ∷ recs) d rises.1 (omega arith) in
    let le = count_le a b rises.0 in
    let place : length (a ∷ b ∷ recs) - 1 ≡ suc (length (b ∷ recs) - 1) = omega arith in
    let last : (get_or (a ∷ b ∷ recs) (length (a ∷ b ∷ recs) - 1) d).count ≡ (get_or (b ∷ recs) (length (b ∷ recs) - 1) d).count = ap (λ (k : ℕ). (get_or (a ∷ b ∷ recs) k d).count) place in
    omega (arith, last, rest, le)
