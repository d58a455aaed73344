-- How many runs of free space have a block, where a run leaves them or joins them.
use Rattle.std.specs.Prelude.{ℕ, Bool, true, false, not, List, [], ◌∷◌, ◌++◌, filter, find, reverse, is_some, option_to_list, Option, Some, None, ◌≡◌, ◌==◌, ◌&&◌, ◌||◌, ◌+◌, ◌-◌, ◌<◌, ◌≤◌, nat_le, nat_lt, refl, if◌then◌else◌}
use Rattle.std.specs.List.{list_any}
use Rattle.std.specs.Option.{option_map_or}
use Rattle.std.proofs.Common.{sym, ap, ap₂, ◌∙◌, arith, cond}
use Rattle.std.proofs.lemmas.Bool.{eq-eqb, eqb-true, true≢false, ne_eqb}
use Rattle.std.proofs.lemmas.Bool.Decides.{nat_tests}
use Rattle.std.proofs.lemmas.List.{reverse-append}
use Rattle.fs_change.specs.Records.{before_run, behind_run, by_start, end_of, give_span, has_span, holder_of, is_same_span, last_at, only_where, put_all, put_by, rest_of, span, take_span}
use Rattle.fs_state.specs.Lists.{only_if}
use Rattle.span_recs.specs.declared.span.SpanRec.{SpanRec}
use Rattle.law_accounts.specs.Account.Accounts.{at_span, spans_at}
use Rattle.law_accounts.specs.Account.Space.{AreApart, GivenSpans, TakenSpans}
use Rattle.law_accounts.proofs.Account.Spans.{and_left, and_right, span_not}
use Rattle.law_accounts.proofs.Account.Sums.{at_split}

abbrev at : ℕ → SpanRec → ℕ
at b r = at_span r.start r.count b

-- ---- records put in

put_spans : (b : ℕ) (x : SpanRec) (rs : List SpanRec) → spans_at (put_by (λ s. s.start) x rs) b ≡ at b x + spans_at rs b
put_spans b x [] = refl
put_spans b x (y ∷ ys) = by (nat_lt y.start x.start) (put_spans b x ys)
  where
    swap : (x y z w : ℕ) → w ≡ x + z → y + w ≡ x + (y + z)
    swap x y z w e = omega (arith, e)

    by : (k : Bool) → spans_at (put_by (λ s. s.start) x ys) b ≡ at b x + spans_at ys b → spans_at (if k then y ∷ put_by (λ s. s.start) x ys else x ∷ y ∷ ys) b ≡ at b x + (at b y + spans_at ys b)
    by true h = swap (at b x) (at b y) (spans_at ys b) (spans_at (put_by (λ s. s.start) x ys) b) h
    by false h = refl

put_all_spans : (b : ℕ) (xs rs : List SpanRec) → spans_at (put_all by_start xs rs) b ≡ spans_at xs b + spans_at rs b
put_all_spans b [] rs = zero_more (spans_at rs b)
  where
    zero_more : (n : ℕ) → n ≡ 0 + n
    zero_more n = omega arith
put_all_spans b (x ∷ xs) rs = put_spans b x (put_all by_start xs rs) ∙ ap (λ (n : ℕ). at b x + n) (put_all_spans b xs rs) ∙ assoc (at b x) (spans_at xs b) (spans_at rs b)
  where
    assoc : (x y z : ℕ) → x + (y + z) ≡ x + y + z
    assoc x y z = omega arith

-- ---- records that go

-- what those that pass have
abbrev passing : (SpanRec → Bool) → ℕ → List SpanRec → ℕ
passing test b [] = 0
passing test b (r ∷ rs) = (if test r then at b r else 0) + passing test b rs

filtered : (test : SpanRec → Bool) (b : ℕ) (rs : List SpanRec) → spans_at (filter (λ r. not (test r)) rs) b + passing test b rs ≡ spans_at rs b
filtered test b [] = refl
filtered test b (r ∷ rs) = by (test r) (filtered test b rs)
  where
    goes : (s t v x : ℕ) → s + t ≡ v → s + (x + t) ≡ x + v
    goes s t v x e = omega (arith, e)

    stays : (s t v x : ℕ) → s + t ≡ v → x + s + (0 + t) ≡ x + v
    stays s t v x e = omega (arith, e)

    by : (k : Bool) → spans_at (filter (λ y. not (test y)) rs) b + passing test b rs ≡ spans_at rs b → spans_at (cond (not k) (r ∷ filter (λ y. not (test y)) rs) (filter (λ y. not (test y)) rs)) b + ((if k then at b r else 0) + passing test b rs) ≡ at b r + spans_at rs b
    by true h = goes (spans_at (filter (λ y. not (test y)) rs) b) (passing test b rs) (spans_at rs b) (at b r) h
    by false h = stays (spans_at (filter (λ y. not (test y)) rs) b) (passing test b rs) (spans_at rs b) (at b r) h

same_is : (r s : SpanRec) → is_same_span r s ≡ true → r ≡ s
same_is r s h = λ i. record { start = eqb-true r.start s.start (and_left (r.start == s.start) (r.count == s.count) h) i; count = eqb-true r.count s.count (and_right (r.start == s.start) (r.count == s.count) h) i }

-- records behind this place aren't it
none_behind : (s : SpanRec) (b from : ℕ) (rs : List SpanRec) → s.start < from → AreApart from rs → passing (λ r. is_same_span r s) b rs ≡ 0
none_behind s b from [] lt h = refl
none_behind s b from (r ∷ rs) lt h =
    let le = h.0 in
    let other : (r.start == s.start) ≡ false = ne_eqb r.start s.start (λ e. omega (arith, e, le, lt)) in
    let rest = none_behind s b (r.start + r.count + 1) rs (omega (arith, le, lt)) h.2 in
    ap (λ (k : Bool). (if k && (r.count == s.count) then at b r else 0) + passing (λ x. is_same_span x s) b rs) other ∙ rest_of_it rest
  where
    rest_of_it : passing (λ x. is_same_span x s) b rs ≡ 0 → 0 + passing (λ x. is_same_span x s) b rs ≡ 0
    rest_of_it e = omega (arith, e)

-- a record of the list stands there once
only_one : (s : SpanRec) (b from : ℕ) (rs : List SpanRec) → AreApart from rs → list_any (λ r. is_same_span r s) rs ≡ true → passing (λ r. is_same_span r s) b rs ≡ at b s
only_one s b from [] h i = absurd (true≢false (sym i))
only_one s b from (r ∷ rs) h i = by (is_same_span r s) refl i (λ j. only_one s b (r.start + r.count + 1) rs h.2 j)
  where
    first : (x : ℕ) → x + 0 ≡ x
    first x = omega arith

    by : (k : Bool) → is_same_span r s ≡ k → (k || list_any (λ x. is_same_span x s) rs) ≡ true → (list_any (λ x. is_same_span x s) rs ≡ true → passing (λ x. is_same_span x s) b rs ≡ at b s) → (if k then at b r else 0) + passing (λ x. is_same_span x s) b rs ≡ at b s
    by true e j again =
        let is : r ≡ s = same_is r s e in
        let pos = h.1 in
        let starts : s.start ≡ r.start = ap (λ (x : SpanRec). x.start) (sym is) in
        ap₂ (λ (m n : ℕ). m + n) (ap (at b) is) (none_behind s b (r.start + r.count + 1) rs (omega (arith, starts, pos)) h.2) ∙ first (at b s)
    by false e j again = none (again j)
      where
        none : passing (λ x. is_same_span x s) b rs ≡ at b s → 0 + passing (λ x. is_same_span x s) b rs ≡ at b s
        none z = omega (arith, z)

-- one of two different records, or none of them
nothing_passes : (test : SpanRec → Bool) (b : ℕ) (rs : List SpanRec) → ((r : SpanRec) → test r ≡ false) → passing test b rs ≡ 0
nothing_passes test b [] h = refl
nothing_passes test b (r ∷ rs) h = ap₂ (λ (k : Bool) (n : ℕ). (if k then at b r else 0) + n) (h r) (nothing_passes test b rs h)

either_passes : (p q : SpanRec → Bool) (b : ℕ) (rs : List SpanRec) → ((r : SpanRec) → p r ≡ true → q r ≡ true → ⊥) → passing (λ r. p r || q r) b rs ≡ passing p b rs + passing q b rs
either_passes p q b [] apart = refl
either_passes p q b (r ∷ rs) apart = by (p r) refl (q r) refl (either_passes p q b rs apart)
  where
    left_one : (x m n k : ℕ) → k ≡ m + n → x + k ≡ x + m + (0 + n)
    left_one x m n k e = omega (arith, e)

    right_one : (x m n k : ℕ) → k ≡ m + n → x + k ≡ 0 + m + (x + n)
    right_one x m n k e = omega (arith, e)

    neither : (m n k : ℕ) → k ≡ m + n → 0 + k ≡ 0 + m + (0 + n)
    neither m n k e = omega (arith, e)

    by : (k : Bool) → p r ≡ k → (l : Bool) → q r ≡ l → passing (λ y. p y || q y) b rs ≡ passing p b rs + passing q b rs
        → (if k || l then at b r else 0) + passing (λ y. p y || q y) b rs ≡ (if k then at b r else 0) + passing p b rs + ((if l then at b r else 0) + passing q b rs)
    by true e true f h = absurd (apart r e f)
    by true e false f h = left_one (at b r) (passing p b rs) (passing q b rs) (passing (λ y. p y || q y) b rs) h
    by false e true f h = right_one (at b r) (passing p b rs) (passing q b rs) (passing (λ y. p y || q y) b rs) h
    by false e false f h = neither (passing p b rs) (passing q b rs) (passing (λ y. p y || q y) b rs) h

-- ---- records that are found

any_both : (p : SpanRec → Bool) (xs ys : List SpanRec) → list_any p (xs ++ ys) ≡ (list_any p xs || list_any p ys)
any_both p [] ys = refl
any_both p (x ∷ xs) ys = ap (λ (k : Bool). p x || k) (any_both p xs ys) ∙ or_assoc (p x) (list_any p xs) (list_any p ys)
  where
    or_assoc : (x y z : Bool) → (x || (y || z)) ≡ ((x || y) || z)
    or_assoc true y z = refl
    or_assoc false y z = refl

any_reversed : (p : SpanRec → Bool) (xs : List SpanRec) → list_any p (reverse xs) ≡ list_any p xs
any_reversed p [] = refl
any_reversed p (x ∷ xs) = ap (list_any p) (reverse-append (x ∷ []) xs) ∙ any_both p (reverse xs) (x ∷ []) ∙ ap (λ (k : Bool). k || (p x || false)) (any_reversed p xs) ∙ or_swap (list_any p xs) (p x)
  where
    or_swap : (x y : Bool) → (x || (y || false)) ≡ (y || x)
    or_swap true true = refl
    or_swap true false = refl
    or_swap false true = refl
    or_swap false false = refl

same_self : (s : SpanRec) → is_same_span s s ≡ true
same_self s = ap₂ (λ (x y : Bool). x && y) (eq-eqb s.start s.start refl) (eq-eqb s.count s.count refl)

some_out : {x y : SpanRec} → ◌≡◌ {A = Option SpanRec} (Some x) (Some y) → x ≡ y
some_out e = cc

none_some : (x : SpanRec) → ◌≡◌ {A = Option SpanRec} None (Some x) → ⊥
none_some x e = cc

found : (p : SpanRec → Bool) (rs : List SpanRec) (s : SpanRec) → find p rs ≡ Some s → (list_any (λ r. is_same_span r s) rs ≡ true) × (p s ≡ true)
found p [] s h = absurd (none_some s h)
found p (r ∷ rs) s h = by (p r) refl h (λ i. found p rs s i)
  where
    or_right : (x y : Bool) → y ≡ true → (x || y) ≡ true
    or_right true y e = refl
    or_right false y e = e

    by : (k : Bool) → p r ≡ k → (if k then Some r else find p rs) ≡ Some s → (find p rs ≡ Some s → (list_any (λ x. is_same_span x s) rs ≡ true) × (p s ≡ true)) → (list_any (λ x. is_same_span x s) (r ∷ rs) ≡ true) × (p s ≡ true)
    by true e i again =
        let is : r ≡ s = some_out i in
        (ap (λ (k : Bool). k || list_any (λ x. is_same_span x s) rs) (ap (λ (x : SpanRec). is_same_span x s) is ∙ same_self s), ap p (sym is) ∙ e)
    by false e i again = let f = again i in (or_right (is_same_span r s) (list_any (λ x. is_same_span x s) rs) f.0, f.1)

kept_where : (test : SpanRec → Bool) (o : Option SpanRec) (s : SpanRec) → only_where test o ≡ Some s → (o ≡ Some s) × (test s ≡ true)
kept_where test None s h = absurd (none_some s h)
kept_where test (Some r) s h = by (test r) refl h
  where
    by : (k : Bool) → test r ≡ k → (if k then Some r else None) ≡ Some s → (◌≡◌ {A = Option SpanRec} (Some r) (Some s)) × (test s ≡ true)
    by true e i = (i, ap test (sym (some_out i)) ∙ e)
    by false e i = absurd (none_some s i)

-- ---- a run leaves

whole_of : (o : Option SpanRec) → is_some o ≡ true → (s : SpanRec) × (o ≡ Some s)
whole_of None h = absurd (true≢false (sym h))
whole_of (Some s) h = (s, refl)

abbrev pub Holds : SpanRec → SpanRec → Type 0
Holds s run = (s.start ≤ run.start) × (end_of run ≤ end_of s)

held : (rs : List SpanRec) (run s : SpanRec) → holder_of rs run ≡ Some s → (list_any (λ r. is_same_span r s) rs ≡ true) × Holds s run
held rs run s h =
    let k = kept_where (λ r. nat_le (end_of run) (end_of r)) (last_at (λ r. r.start) run.start rs) s h in
    let f = found (λ r. nat_le r.start run.start) (reverse rs) s k.0 in
    let low : nat_le s.start run.start ≡ true = f.1 in
    let high : nat_le (end_of run) (end_of s) ≡ true = k.1 in
    (sym (any_reversed (λ r. is_same_span r s) rs) ∙ f.0, (grind (arith, nat_tests, low), grind (arith, nat_tests, high)))

module _ (b : ℕ) where
  empty : (k n : ℕ) → n ≡ 0 → at_span k n b ≡ 0
  empty k n e = ap (λ z. if z then 1 else 0) (span_not k n b (λ l m. omega (arith, l, m, e)))

  part : (k : Bool) (i c : ℕ) → (k ≡ false → c ≡ 0) → spans_at (only_if k (span i c)) b ≡ at_span i c b
  part true i c f = plus (at_span i c b)
    where
      plus : (z : ℕ) → z + 0 ≡ z
      plus z = omega arith
  part false i c f = sym (empty i c (f refl))

  append : (rs ss : List SpanRec) → spans_at (rs ++ ss) b ≡ spans_at rs b + spans_at ss b
  append [] ss = zero_more (spans_at ss b)
    where
      zero_more : (n : ℕ) → n ≡ 0 + n
      zero_more n = omega arith
  append (r ∷ rs) ss = ap (λ z. at b r + z) (append rs ss) ∙ assoc (at b r) (spans_at rs b) (spans_at ss b)
    where
      assoc : (x y z : ℕ) → x + (y + z) ≡ x + y + z
      assoc x y z = omega arith

  -- what is left of the record that held it
  left_over : (s run : SpanRec) → Holds s run → spans_at (rest_of run s) b + at b run ≡ at b s
  left_over s run h =
      let low = h.0 in
      let high = h.1 in
      let front = part (nat_lt s.start run.start) s.start (run.start - s.start) (λ e. let q : run.start ≤ s.start = grind (arith, nat_tests, e) in omega (arith, q)) in
      let back = part (nat_lt (end_of run) (end_of s)) (end_of run) (end_of s - end_of run) (λ e. let q : end_of s ≤ end_of run = grind (arith, nat_tests, e) in omega (arith, q)) in
      let both = append (only_if (nat_lt s.start run.start) (span s.start (run.start - s.start))) (only_if (nat_lt (end_of run) (end_of s)) (span (end_of run) (end_of s - end_of run))) in
      let start : s.start + (run.start - s.start) ≡ run.start = omega (arith, low) in
      let first = at_split s.start (run.start - s.start) (s.count - (run.start - s.start)) s.count b (omega (arith, low, high)) in
      let second = at_split run.start run.count (end_of s - end_of run) (s.count - (run.start - s.start)) b (omega (arith, low, high)) in
      let moved = ap (λ (z : ℕ). at_span z (s.count - (run.start - s.start)) b) start in
      sums (spans_at (rest_of run s) b) (at_span s.start (run.start - s.start) b) (at_span (end_of run) (end_of s - end_of run) b) (at b run) (at b s) (at_span (s.start + (run.start - s.start)) (s.count - (run.start - s.start)) b) (at_span run.start (s.count - (run.start - s.start)) b)
      (spans_at (only_if (nat_lt s.start run.start) (span s.start (run.start - s.start))) b) (spans_at (only_if (nat_lt (end_of run) (end_of s)) (span (end_of run) (end_of s - end_of run))) b) both front back first moved second
    where
      sums : (l x z r w u v f k : ℕ) → l ≡ f + k → f ≡ x → k ≡ z → w ≡ x + u → u ≡ v → v ≡ r + z → l + r ≡ w
      sums l x z r w u v f k e1 e2 e3 e4 e5 e6 = omega (arith, e1, e2, e3, e4, e5, e6)

  one_out : (s : SpanRec) (rs : List SpanRec) → AreApart 0 rs → list_any (λ r. is_same_span r s) rs ≡ true → spans_at (filter (λ r. not (has_span (s ∷ []) r)) rs) b + at b s ≡ spans_at rs b
  one_out s rs apart there =
      let e = filtered (λ r. has_span (s ∷ []) r) b rs in
      let f = either_passes (λ r. is_same_span r s) (λ r. false) b rs (λ r x y. true≢false (sym y)) in
      let n = nothing_passes (λ r. false) b rs (λ r. refl) in
      let o = only_one s b 0 rs apart there in
      sums (spans_at (filter (λ r. not (has_span (s ∷ []) r)) rs) b) (passing (λ r. has_span (s ∷ []) r) b rs) (spans_at rs b) (passing (λ r. is_same_span r s) b rs) (passing (λ r. false) b rs) (at b s) e f n o
    where
      sums : (l p w x z y : ℕ) → l + p ≡ w → p ≡ x + z → z ≡ 0 → x ≡ y → l + y ≡ w
      sums l p w x z y e1 e2 e3 e4 = omega (arith, e1, e2, e3, e4)

  two_out : (s t : SpanRec) (rs : List SpanRec) → s.start < t.start → AreApart 0 rs → list_any (λ r. is_same_span r s) rs ≡ true → list_any (λ r. is_same_span r t) rs ≡ true
      → spans_at (filter (λ r. not (has_span (s ∷ t ∷ []) r)) rs) b + (at b s + at b t) ≡ spans_at rs b
  two_out s t rs lt apart there here =
      let e = filtered (λ r. has_span (s ∷ t ∷ []) r) b rs in
      let f = either_passes (λ r. is_same_span r s) (λ r. is_same_span r t || false) b rs (λ r x y. differ r x (or_none (is_same_span r t) y)) in
      let g = either_passes (λ r. is_same_span r t) (λ r. false) b rs (λ r x y. true≢false (sym y)) in
      let n = nothing_passes (λ r. false) b rs (λ r. refl) in
      let o = only_one s b 0 rs apart there in
      let u = only_one t b 0 rs apart here in
      sums (spans_at (filter (λ r. not (has_span (s ∷ t ∷ []) r)) rs) b) (passing (λ r. has_span (s ∷ t ∷ []) r) b rs) (spans_at rs b) (passing (λ r. is_same_span r s) b rs) (passing (λ r. is_same_span r t || false) b rs) (passing (λ r. is_same_span r t) b rs) (passing (λ r. false) b rs) (at b s) (at b t) e f g n o u
    where
      or_none : (x : Bool) → (x || false) ≡ true → x ≡ true
      or_none true h = refl
      or_none false h = h

      differ : (r : SpanRec) → is_same_span r s ≡ true → is_same_span r t ≡ true → ⊥
      differ r x y =
          let i : s.start ≡ t.start = ap (λ (z : SpanRec). z.start) (sym (same_is r s x) ∙ same_is r t y) in
          omega (arith, i, lt)

      sums : (l p w x y v z m n : ℕ) → l + p ≡ w → p ≡ x + y → y ≡ v + z → z ≡ 0 → x ≡ m → v ≡ n → l + (m + n) ≡ w
      sums l p w x y v z m n e1 e2 e3 e4 e5 e6 = omega (arith, e1, e2, e3, e4, e5, e6)

  none_out : (rs : List SpanRec) → spans_at (filter (λ r. not (has_span [] r)) rs) b ≡ spans_at rs b
  none_out rs =
      let e = filtered (λ r. has_span [] r) b rs in
      let n = nothing_passes (λ r. false) b rs (λ r. refl) in
      sums (spans_at (filter (λ r. not (has_span [] r)) rs) b) (passing (λ r. has_span [] r) b rs) (spans_at rs b) e n
    where
      sums : (l p w : ℕ) → l + p ≡ w → p ≡ 0 → l ≡ w
      sums l p w e f = omega (arith, e, f)

pub taken_spans : TakenSpans
unfolding take_span
taken_spans rs run b apart some =
    let w = whole_of (holder_of rs run) some in
    let s : SpanRec = w.0 in
    let h = held rs run s w.1 in
    let e = put_all_spans b (rest_of run s) (filter (λ r. not (has_span (s ∷ []) r)) rs) in
    ap (λ (o : Option SpanRec). spans_at (put_all by_start (option_map_or (rest_of run) o []) (filter (λ r. not (has_span (option_to_list o) r)) rs)) b + at b run) w.1
    ∙ sums (spans_at (put_all by_start (rest_of run s) (filter (λ r. not (has_span (s ∷ []) r)) rs)) b) (spans_at (rest_of run s) b) (spans_at (filter (λ r. not (has_span (s ∷ []) r)) rs) b) (at b run) (at b s) (spans_at rs b) e (left_over b s run h.1) (one_out b s rs apart h.0)
  where
    sums : (p l f r s w : ℕ) → p ≡ l + f → l + r ≡ s → f + s ≡ w → p + r ≡ w
    sums p l f r s w e1 e2 e3 = omega (arith, e1, e2, e3)

-- ---- a run joins

before_is : (rs : List SpanRec) (run s : SpanRec) → before_run rs run ≡ Some s → (list_any (λ r. is_same_span r s) rs ≡ true) × (end_of s ≡ run.start) × (s.start < run.start)
before_is rs run s h =
    let k = kept_where (λ r. end_of r == run.start) (find (λ r. nat_lt r.start run.start) (reverse rs)) s h in
    let f = found (λ r. nat_lt r.start run.start) (reverse rs) s k.0 in
    let low : nat_lt s.start run.start ≡ true = f.1 in
    (sym (any_reversed (λ r. is_same_span r s) rs) ∙ f.0, eqb-true (end_of s) run.start k.1, grind (arith, nat_tests, low))

behind_is : (rs : List SpanRec) (run s : SpanRec) → behind_run rs run ≡ Some s → (list_any (λ r. is_same_span r s) rs ≡ true) × (s.start ≡ end_of run)
behind_is rs run s h = let f = found (λ r. r.start == end_of run) rs s h in (f.0, eqb-true s.start (end_of run) f.1)

module _ (rs : List SpanRec) (run : SpanRec) (b : ℕ) (apart : AreApart 0 rs) (pos : 0 < run.count) where
  abbrev given_by : Option SpanRec → Option SpanRec → ℕ
  given_by o p = spans_at (put_all by_start (span (option_map_or (λ r. r.start) o run.start) (option_map_or (λ r. r.count) o 0 + run.count + option_map_or (λ r. r.count) p 0) ∷ []) (filter (λ r. not (has_span (option_to_list o ++ option_to_list p) r)) rs)) b

  by_cases : (o p : Option SpanRec) → before_run rs run ≡ o → behind_run rs run ≡ p → given_by o p ≡ spans_at rs b + at b run
  by_cases None None e f =
      let j = span run.start (0 + run.count + 0) in
      let put = put_all_spans b (j ∷ []) (filter (λ r. not (has_span [] r)) rs) in
      let same : at b j ≡ at b run = ap (λ (n : ℕ). at_span run.start n b) (plain run.count) in
      none (given_by None None) (at b j) (spans_at (filter (λ r. not (has_span [] r)) rs) b) (spans_at rs b) (at b run) put same (none_out b rs)
    where
      plain : (n : ℕ) → 0 + n + 0 ≡ n
      plain n = omega arith

      none : (g j f w r : ℕ) → g ≡ j + 0 + f → j ≡ r → f ≡ w → g ≡ w + r
      none g j f w r e1 e2 e3 = omega (arith, e1, e2, e3)
  by_cases (Some s) None e f =
      let k = before_is rs run s e in
      let j = span s.start (s.count + run.count + 0) in
      let put = put_all_spans b (j ∷ []) (filter (λ r. not (has_span (s ∷ []) r)) rs) in
      let ends = k.1 in
      let split : at b j ≡ at b s + at b run = at_split s.start s.count run.count (s.count + run.count + 0) b (omega arith) ∙ ap (λ (n : ℕ). at b s + at_span n run.count b) ends in
      one (given_by (Some s) None) (at b j) (spans_at (filter (λ r. not (has_span (s ∷ []) r)) rs) b) (spans_at rs b) (at b s) (at b run) put split (one_out b s rs apart k.0)
    where
      one : (g j f w s r : ℕ) → g ≡ j + 0 + f → j ≡ s + r → f + s ≡ w → g ≡ w + r
      one g j f w s r e1 e2 e3 = omega (arith, e1, e2, e3)
  by_cases None (Some t) e f =
      let k = behind_is rs run t f in
      let j = span run.start (0 + run.count + t.count) in
      let put = put_all_spans b (j ∷ []) (filter (λ r. not (has_span (t ∷ []) r)) rs) in
      let split : at b j ≡ at b run + at b t = at_split run.start run.count t.count (0 + run.count + t.count) b (omega arith) ∙ ap (λ (n : ℕ). at b run + at_span n t.count b) (sym k.1) in
      one (given_by None (Some t)) (at b j) (spans_at (filter (λ r. not (has_span (t ∷ []) r)) rs) b) (spans_at rs b) (at b t) (at b run) put split (one_out b t rs apart k.0)
    where
      one : (g j f w t r : ℕ) → g ≡ j + 0 + f → j ≡ r + t → f + t ≡ w → g ≡ w + r
      one g j f w t r e1 e2 e3 = omega (arith, e1, e2, e3)
  by_cases (Some s) (Some t) e f =
      let k = before_is rs run s e in
      let l = behind_is rs run t f in
      let j = span s.start (s.count + run.count + t.count) in
      let put = put_all_spans b (j ∷ []) (filter (λ r. not (has_span (s ∷ t ∷ []) r)) rs) in
      let ends = k.1 in
      let starts = l.1 in
      let low = k.2 in
      let first : at b j ≡ at b s + at_span run.start (run.count + t.count) b = at_split s.start s.count (run.count + t.count) (s.count + run.count + t.count) b (omega arith) ∙ ap (λ (n : ℕ). at b s + at_span n (run.count + t.count) b) ends in
      let second : at_span run.start (run.count + t.count) b ≡ at b run + at b t = at_split run.start run.count t.count (run.count + t.count) b refl ∙ ap (λ (n : ℕ). at b run + at_span n t.count b) (sym starts) in
      two (given_by (Some s) (Some t)) (at b j) (spans_at (filter (λ r. not (has_span (s ∷ t ∷ []) r)) rs) b) (spans_at rs b) (at b s) (at b t) (at b run) (at_span run.start (run.count + t.count) b) put first second (two_out b s t rs (omega (arith, starts, low, pos)) apart k.0 l.0)
    where
      two : (g j f w s t r v : ℕ) → g ≡ j + 0 + f → j ≡ s + v → v ≡ r + t → f + (s + t) ≡ w → g ≡ w + r
      two g j f w s t r v e1 e2 e3 e4 = omega (arith, e1, e2, e3, e4)

pub given_spans : GivenSpans
unfolding give_span
given_spans rs run b apart pos = by_cases rs run b apart pos (before_run rs run) (behind_run rs run) refl refl
