-- The order by count follows: to sort and then to exchange records is to exchange them and then to sort.
use Rattle.std.specs.Prelude.{ℕ, Bool, true, false, not, List, [], ◌∷◌, filter, max, ◌≡◌, ◌⊎◌, ◌==◌, ◌&&◌, ◌||◌, ◌<◌, ◌≤◌, nat_lt, option_to_list, refl}
use Rattle.std.specs.Option.{option_map_or}
use Rattle.std.proofs.Common.{sym, ap, ap₂, subst, ◌∙◌, arith, cond, inl, inr}
use Rattle.std.proofs.lemmas.Bool.{cases_Bool, true≢false}
use Rattle.std.proofs.lemmas.Bool.Decides.{nat_tests}
use Rattle.derive_defs.specs.ByCount.{greatest, ordered_by_count, put_in}
use Rattle.derive_defs.specs.Free.{free_space}
use Rattle.fs_change.specs.Changes.{by_count, last_count}
use Rattle.fs_change.specs.Records.{before_run, behind_run, beside_run, by_start, give_span, has_span, holder_of, joined_run, put_all, put_by, rest_of, swap_spans, take_span}
use Rattle.span_recs.specs.Spans.{is_before_by_count}
use Rattle.span_recs.specs.declared.span.SpanRec.{SpanRec}
use Rattle.law_accounts.specs.Edit.Space.{CountGiven, CountTaken, LastIsLongest}
use Rattle.law_accounts.proofs.Edit.Gaps.{Stands, kept}

-- ---- the order

not_behind : (w z r : SpanRec) → is_before_by_count w z ≡ false → is_before_by_count z r ≡ false → is_before_by_count w r ≡ false
unfolding is_before_by_count
not_behind w z r h i = grind (arith, nat_tests)

not_both : (x y : SpanRec) → is_before_by_count x y ≡ true → is_before_by_count y x ≡ false
unfolding is_before_by_count
not_both x y h = grind (arith, nat_tests)

same_count : (x y : SpanRec) → is_before_by_count x y ≡ false → is_before_by_count y x ≡ false → x.count ≡ y.count
unfolding is_before_by_count
same_count x y h i = grind (arith, nat_tests)

same_start : (x y : SpanRec) → is_before_by_count x y ≡ false → is_before_by_count y x ≡ false → x.start ≡ y.start
unfolding is_before_by_count
same_start x y h i = grind (arith, nat_tests)

same_span : (x y : SpanRec) → is_before_by_count x y ≡ false → is_before_by_count y x ≡ false → x ≡ y
same_span x y h i = λ j. record { start = same_start x y h i j; count = same_count x y h i j }

-- ---- two records put in

abbrev put_with : Bool → SpanRec → SpanRec → List SpanRec → List SpanRec
put_with b r z zs = cond b (z ∷ put_in r zs) (r ∷ z ∷ zs)

put_step : (b : Bool) (r z : SpanRec) (zs : List SpanRec) → is_before_by_count z r ≡ b → put_in r (z ∷ zs) ≡ put_with b r z zs
put_step b r z zs h = ap (λ (k : Bool). put_with k r z zs) h

either_first : (x y : SpanRec) (zs : List SpanRec) → is_before_by_count y x ≡ false → is_before_by_count x y ≡ false → x ∷ y ∷ zs ≡ y ∷ x ∷ zs
either_first x y zs h i = let e = same_span x y i h in λ j. e j ∷ sym e j ∷ zs

module _ (x y : SpanRec) where
  two_alone : (b c : Bool) → is_before_by_count y x ≡ b → is_before_by_count x y ≡ c → put_with b x y [] ≡ put_with c y x []
  two_alone true true h i = absurd (true≢false (sym i ∙ not_both y x h))
  two_alone true false h i = refl
  two_alone false true h i = refl
  two_alone false false h i = either_first x y [] h i

  -- both before z
  ahead_of : (z : SpanRec) (zs : List SpanRec) (b c : Bool) → is_before_by_count y x ≡ b → is_before_by_count x y ≡ c → is_before_by_count z x ≡ false → is_before_by_count z y ≡ false
      → put_with b x y (z ∷ zs) ≡ put_with c y x (z ∷ zs)
  ahead_of z zs true true h i u v = absurd (true≢false (sym i ∙ not_both y x h))
  ahead_of z zs true false h i u v = ap (λ (ws : List SpanRec). y ∷ ws) (put_step false x z zs u)
  ahead_of z zs false true h i u v = ap (λ (ws : List SpanRec). x ∷ ws) (sym (put_step false y z zs v))
  ahead_of z zs false false h i u v = either_first x y (z ∷ zs) h i

  put_both : (zs : List SpanRec) → put_in x (put_in y zs) ≡ put_in y (put_in x zs)
  put_both [] = two_alone (is_before_by_count y x) (is_before_by_count x y) refl refl
  put_both (z ∷ zs) = by (is_before_by_count z y) (is_before_by_count z x) refl refl (put_both zs)
    where
      by : (b c : Bool) → is_before_by_count z y ≡ b → is_before_by_count z x ≡ c → put_in x (put_in y zs) ≡ put_in y (put_in x zs) → put_in x (put_in y (z ∷ zs)) ≡ put_in y (put_in x (z ∷ zs))
      by true true h i again =
          ap (put_in x) (put_step true y z zs h) ∙ put_step true x z (put_in y zs) i ∙ ap (λ (ws : List SpanRec). z ∷ ws) again
          ∙ sym (put_step true y z (put_in x zs) h) ∙ ap (put_in y) (sym (put_step true x z zs i))
      by true false h i again =
          ap (put_in x) (put_step true y z zs h) ∙ put_step false x z (put_in y zs) i
          ∙ ap (λ (ws : List SpanRec). x ∷ ws) (sym (put_step true y z zs h)) ∙ sym (put_step true y x (z ∷ zs) x_first) ∙ ap (put_in y) (sym (put_step false x z zs i))
        where
          x_first : is_before_by_count x y ≡ true
          x_first = elim (cases_Bool (is_before_by_count x y)) [
            | inl is ↦ is
            | inr isnt ↦ absurd (true≢false (sym h ∙ not_behind z x y i isnt))
          ]
      by false true h i again =
          ap (put_in x) (put_step false y z zs h) ∙ put_step true x y (z ∷ zs) y_first ∙ ap (λ (ws : List SpanRec). y ∷ ws) (put_step true x z zs i)
          ∙ sym (put_step false y z (put_in x zs) h) ∙ ap (put_in y) (sym (put_step true x z zs i))
        where
          y_first : is_before_by_count y x ≡ true
          y_first = elim (cases_Bool (is_before_by_count y x)) [
            | inl is ↦ is
            | inr isnt ↦ absurd (true≢false (sym i ∙ not_behind z y x h isnt))
          ]
      by false false h i again =
          ap (put_in x) (put_step false y z zs h) ∙ ahead_of z zs (is_before_by_count y x) (is_before_by_count x y) refl refl i h ∙ ap (put_in y) (sym (put_step false x z zs i))

-- ---- sorted after a record came

pub sorted_put : (x : SpanRec) (rs : List SpanRec) → ordered_by_count (by_start x rs) ≡ put_in x (ordered_by_count rs)
unfolding ordered_by_count
sorted_put x [] = refl
sorted_put x (y ∷ ys) = elim (nat_lt y.start x.start) as (λ b. ordered_by_count (cond b (y ∷ put_by (λ s. s.start) x ys) (x ∷ y ∷ ys)) ≡ put_in x (put_in y (ordered_by_count ys))) [
  | true ↦ ap (put_in y) (sorted_put x ys) ∙ put_both y x (ordered_by_count ys)
  | false ↦ refl
]

all_put : (new rs : List SpanRec) → put_all by_count new (ordered_by_count rs) ≡ ordered_by_count (put_all by_start new rs)
all_put [] rs = refl
all_put (x ∷ xs) rs = ap (put_in x) (all_put xs rs) ∙ sym (sorted_put x (put_all by_start xs rs))

-- ---- sorted after records went

abbrev IsSorted : List SpanRec → Type 0
IsSorted [] = Unit {0}
IsSorted (z ∷ zs) = ((w : SpanRec) → Stands w zs → is_before_by_count w z ≡ false) × IsSorted zs

put_in_has : (r : SpanRec) (zs : List SpanRec) (w : SpanRec) → Stands w (put_in r zs) → (r ≡ w) ⊎ Stands w zs
put_in_has r [] w c = c
put_in_has r (z ∷ zs) w c = (elim (is_before_by_count z r) as (λ b. Stands w (put_with b r z zs) → (r ≡ w) ⊎ Stands w (z ∷ zs)) [
  | true ↦ λ d. elim d [
    | inl same ↦ inr (inl same)
    | inr later ↦ elim (put_in_has r zs w later) [ inl same ↦ inl same | inr on ↦ inr (inr on) ]
  ]
  | false ↦ λ d. d
]) c

put_sorted : (r : SpanRec) (zs : List SpanRec) → IsSorted zs → IsSorted (put_in r zs)
put_sorted r [] h = (λ w c. absurd c, tt)
put_sorted r (z ∷ zs) h = (elim (is_before_by_count z r) as (λ b. is_before_by_count z r ≡ b → IsSorted (put_with b r z zs)) [
  | true ↦ λ e. (
    λ w c. elim (put_in_has r zs w c) [
      | inl same ↦ subst (λ (v : SpanRec). is_before_by_count v z ≡ false) same (not_both z r e)
      | inr old ↦ h.0 w old
    ],
    put_sorted r zs h.1,
  )
  | false ↦ λ e. (
    λ w c. elim c [
      | inl same ↦ subst (λ (v : SpanRec). is_before_by_count v r ≡ false) same e
      | inr later ↦ not_behind w z r (h.0 w later) e
    ],
    h,
  )
]) refl

sorted : (rs : List SpanRec) → IsSorted (ordered_by_count rs)
unfolding ordered_by_count
sorted [] = tt
sorted (r ∷ rs) = put_sorted r (ordered_by_count rs) (sorted rs)

-- none of these comes before the record, so it is put in front
in_front : (r : SpanRec) (ws : List SpanRec) → ((w : SpanRec) → Stands w ws → is_before_by_count w r ≡ false) → put_in r ws ≡ r ∷ ws
in_front r [] h = refl
in_front r (w ∷ ws) h = put_step false r w ws (h w (inl refl))

module _ (test : SpanRec → Bool) where
  filter_put : (r : SpanRec) (zs : List SpanRec) → IsSorted zs → filter test (put_in r zs) ≡ cond (test r) (put_in r (filter test zs)) (filter test zs)
  filter_put r [] h = refl
  filter_put r (z ∷ zs) h = by (is_before_by_count z r) refl (test r) refl (test z) refl (filter_put r zs h.1)
    where
      by : (b : Bool) → is_before_by_count z r ≡ b → (k : Bool) → test r ≡ k → (m : Bool) → test z ≡ m → filter test (put_in r zs) ≡ cond (test r) (put_in r (filter test zs)) (filter test zs)
          → filter test (put_in r (z ∷ zs)) ≡ cond (test r) (put_in r (filter test (z ∷ zs))) (filter test (z ∷ zs))
      by true e k f true g again =
          ap (filter test) (put_step true r z zs e) ∙ ap (λ (t : Bool). cond t (z ∷ filter test (put_in r zs)) (filter test (put_in r zs))) g
          ∙ ap (λ (ws : List SpanRec). z ∷ ws) (again ∙ ap (λ (t : Bool). cond t (put_in r (filter test zs)) (filter test zs)) f)
          ∙ with_z k
          ∙ ap (λ (t : Bool). cond t (put_in r (z ∷ filter test zs)) (z ∷ filter test zs)) (sym f)
          ∙ ap (λ (t : Bool). cond (test r) (put_in r (cond t (z ∷ filter test zs) (filter test zs))) (cond t (z ∷ filter test zs) (filter test zs))) (sym g)
        where
          with_z : (t : Bool) → z ∷ cond t (put_in r (filter test zs)) (filter test zs) ≡ cond t (put_in r (z ∷ filter test zs)) (z ∷ filter test zs)
          with_z true = sym (put_step true r z (filter test zs) e)
          with_z false = refl
      by true e k f false g again =
          ap (filter test) (put_step true r z zs e) ∙ ap (λ (t : Bool). cond t (z ∷ filter test (put_in r zs)) (filter test (put_in r zs))) g
          ∙ again
          ∙ ap (λ (t : Bool). cond (test r) (put_in r (cond t (z ∷ filter test zs) (filter test zs))) (cond t (z ∷ filter test zs) (filter test zs))) (sym g)
      by false e k f m g again =
          ap (filter test) (put_step false r z zs e) ∙ ap (λ (ws : List SpanRec). cond (test r) ws (filter test (z ∷ zs))) (sym (in_front r (filter test (z ∷ zs)) none))
        where
          none : (w : SpanRec) → Stands w (filter test (z ∷ zs)) → is_before_by_count w r ≡ false
          none w c = elim (kept test (z ∷ zs) w c).0 [
            | inl same ↦ subst (λ (v : SpanRec). is_before_by_count v r ≡ false) same e
            | inr later ↦ not_behind w z r (h.0 w later) e
          ]

  pub sorted_filter : (rs : List SpanRec) → filter test (ordered_by_count rs) ≡ ordered_by_count (filter test rs)
  unfolding ordered_by_count
  sorted_filter [] = refl
  sorted_filter (r ∷ rs) = filter_put r (ordered_by_count rs) (sorted rs)
      ∙ ap (λ (ws : List SpanRec). cond (test r) (put_in r ws) ws) (sorted_filter rs) ∙ out (test r)
    where
      out : (t : Bool) → cond t (put_in r (ordered_by_count (filter test rs))) (ordered_by_count (filter test rs)) ≡ ordered_by_count (cond t (r ∷ filter test rs) (filter test rs))
      out true = refl
      out false = refl

pub sorted_swap : (out new rs : List SpanRec) → swap_spans by_count out new (ordered_by_count rs) ≡ ordered_by_count (swap_spans by_start out new rs)
sorted_swap out new rs = ap (put_all by_count new) (sorted_filter (λ r. not (has_span out r)) rs) ∙ all_put new (filter (λ r. not (has_span out r)) rs)

pub count_taken : CountTaken
unfolding take_span
count_taken len ms run = sorted_swap (option_to_list (holder_of (free_space len ms) run)) (option_map_or (rest_of run) (holder_of (free_space len ms) run) []) (free_space len ms)

pub count_given : CountGiven
unfolding give_span
count_given len ms run = sorted_swap (beside_run (free_space len ms) run) (joined_run (free_space len ms) run ∷ []) (free_space len ms)

-- ---- the last is the longest

no_more : (w z : SpanRec) → is_before_by_count w z ≡ false → z.count ≤ w.count
unfolding is_before_by_count
no_more w z h = grind (arith, nat_tests)

last_is_greatest : (rs : List SpanRec) → IsSorted rs → last_count rs ≡ greatest rs
last_is_greatest [] h = refl
last_is_greatest (r ∷ []) h = whole r.count
  where
    whole : (n : ℕ) → n ≡ max n 0
    whole n = omega arith
last_is_greatest (r ∷ s ∷ rs) h = last_is_greatest (s ∷ rs) h.1 ∙ no_less r.count s.count (greatest rs) (no_more s r (h.0 s (inl refl)))
  where
    no_less : (m n k : ℕ) → m ≤ n → max n k ≡ max m (max n k)
    no_less m n k le = omega (arith, le)

pub longest_last : LastIsLongest
longest_last rs = last_is_greatest (ordered_by_count rs) (sorted rs)
