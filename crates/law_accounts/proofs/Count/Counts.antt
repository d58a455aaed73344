-- Records of reference counts that don't overlap, where a stretch gets a new count.
use Rattle.std.specs.Prelude.{ℕ, Bool, true, false, not, List, [], ◌∷◌, ◌++◌, filter, find, reverse, min, option_to_list, Option, Some, None, ◌≡◌, ◌⊎◌, ◌==◌, ◌&&◌, ◌||◌, ◌+◌, ◌-◌, ◌<◌, ◌≤◌, nat_le, nat_lt, refl, if◌then◌else◌}
use Rattle.std.specs.List.{list_any}
use Rattle.std.specs.Option.{option_map_or, option_or}
use Rattle.std.proofs.Common.{sym, ap, ap₂, subst, ◌∙◌, arith, cond, inl, inr}
use Rattle.std.proofs.lemmas.Bool.{and_parts, cases_Bool, cases_order, eq-eqb, eqb-true, leb-true, lt-ltb, ltb-true, true≢false}
use Rattle.std.proofs.lemmas.Bool.Decides.{nat_tests}
use Rattle.std.proofs.lemmas.List.{reverse-append}
use Rattle.fs_change.specs.Records.{count_at, count_before, count_behind, count_rest, counted, counter_of, cut_counts, is_same_count, join_counts, last_at, only_where, put_all, put_by, refc_end, set_count, stretch, swap_counts}
use Rattle.fs_state.specs.Lists.{only_if}
use Rattle.span_recs.specs.declared.refcount.RefcRec.{RefcRec}
use Rattle.law_accounts.proofs.Account.Spans.{span_in, span_not, span_out}
use Rattle.law_accounts.specs.Account.Accounts.{in_span}
use Rattle.law_accounts.specs.Count.Counted.{AreCounts, CountsStay, OneCount, StretchCounted, shown_count}
use Rattle.law_accounts.proofs.Count.Lists.{Stands, find_both, found, in_left, in_right, kept, none_found, nothing, reversed, some_found, some_is, stays}

abbrev put : RefcRec → List RefcRec → List RefcRec
put x rs = put_by (λ r. r.start) x rs

-- neither has a block of the other
abbrev pub Beside : RefcRec → RefcRec → Type 0
Beside r s = (refc_end r ≤ s.start) ⊎ (refc_end s ≤ r.start)

-- ---- lists that don't overlap

later : (a b : ℕ) (rs : List RefcRec) → a ≤ b → AreCounts b rs → AreCounts a rs
later a b [] le h = tt
later a b (r ∷ rs) le h = let f = h.0 in (omega (arith, le, f), h.1, h.2)

pub stands_from : (from : ℕ) (rs : List RefcRec) (r : RefcRec) → AreCounts from rs → Stands r rs → (from ≤ r.start) × (0 < r.count)
stands_from from [] r h c = absurd c
stands_from from (s ∷ ss) r h c = elim c [
  | inl same ↦ subst (λ (x : RefcRec). (from ≤ x.start) × (0 < x.count)) same (h.0, h.1)
  | inr behind ↦ let on = stands_from (s.start + s.count) ss r h.2 behind in let f = h.0 in let g = on.0 in (omega (arith, f, g), on.1)
]

pub one_or_beside : (from : ℕ) (rs : List RefcRec) (r s : RefcRec) → AreCounts from rs → Stands r rs → Stands s rs → (r ≡ s) ⊎ Beside r s
one_or_beside from [] r s h c d = absurd c
one_or_beside from (x ∷ xs) r s h c d = elim c [
  | inl same ↦ elim d [
    | inl also ↦ inl (sym same ∙ also)
    | inr behind ↦ inr (inl (subst (λ (y : RefcRec). refc_end y ≤ s.start) same (stands_from (x.start + x.count) xs s h.2 behind).0))
  ]
  | inr behind ↦ elim d [
    | inl also ↦ inr (inr (subst (λ (y : RefcRec). refc_end y ≤ r.start) also (stands_from (x.start + x.count) xs r h.2 behind).0))
    | inr both ↦ one_or_beside (x.start + x.count) xs r s h.2 behind both
  ]
]

filter_counts : (test : RefcRec → Bool) (from : ℕ) (rs : List RefcRec) → AreCounts from rs → AreCounts from (filter test rs)
filter_counts test from [] h = tt
filter_counts test from (r ∷ rs) h = elim (test r) as (λ b. AreCounts from (cond b (r ∷ filter test rs) (filter test rs))) [
  | true ↦ (h.0, h.1, filter_counts test (r.start + r.count) rs h.2)
  | false ↦ filter_counts test from rs (later from (r.start + r.count) rs (let f = h.0 in omega (arith, f)) h.2)
]

put_counts : (x : RefcRec) (from : ℕ) (rs : List RefcRec) → AreCounts from rs → from ≤ x.start → 0 < x.count → ((r : RefcRec) → Stands r rs → Beside x r) → AreCounts from (put x rs)
put_counts x from [] h le some beside = (le, some, tt)
put_counts x from (y ∷ ys) h le some beside = (elim (nat_lt y.start x.start) as (λ b. nat_lt y.start x.start ≡ b → AreCounts from (cond b (y ∷ put_by (λ r. r.start) x ys) (x ∷ y ∷ ys))) [
  | true ↦ λ e.
      let lt : y.start < x.start = ltb-true y.start x.start e in
      (h.0, h.1, put_counts x (y.start + y.count) ys h.2 (elim (beside y (inl refl)) [ inl before ↦ absurd (omega (arith, before, lt)) | inr behind ↦ behind ]) some (λ r c. beside r (inr c)))
  | false ↦ λ e. elim (beside y (inl refl)) [
    | inl before ↦ (le, some, (before, h.1, h.2))
    | inr behind ↦ let pos = h.1 in absurd (true≢false (sym (lt-ltb y.start x.start (omega (arith, behind, pos))) ∙ e))
  ]
]) refl

pub put_has : (x : RefcRec) (rs : List RefcRec) (r : RefcRec) → Stands r (put x rs) → (x ≡ r) ⊎ Stands r rs
put_has x [] r c = c
put_has x (y ∷ ys) r c = (elim (nat_lt y.start x.start) as (λ b. Stands r (cond b (y ∷ put_by (λ r. r.start) x ys) (x ∷ y ∷ ys)) → (x ≡ r) ⊎ Stands r (y ∷ ys)) [
  | true ↦ λ d. elim d [
    | inl same ↦ inr (inl same)
    | inr more ↦ elim (put_has x ys r more) [ inl same ↦ inl same | inr on ↦ inr (inr on) ]
  ]
  | false ↦ λ d. d
]) c

put_new : (x : RefcRec) (rs : List RefcRec) → Stands x (put x rs)
put_new x [] = inl refl
put_new x (y ∷ ys) = elim (nat_lt y.start x.start) as (λ b. Stands x (cond b (y ∷ put_by (λ r. r.start) x ys) (x ∷ y ∷ ys))) [
  | true ↦ inr (put_new x ys)
  | false ↦ inl refl
]

put_old : (x : RefcRec) (rs : List RefcRec) (r : RefcRec) → Stands r rs → Stands r (put x rs)
put_old x [] r c = absurd c
put_old x (y ∷ ys) r c = elim (nat_lt y.start x.start) as (λ b. Stands r (cond b (y ∷ put_by (λ r. r.start) x ys) (x ∷ y ∷ ys))) [
  | true ↦ elim c [ inl same ↦ inl same | inr more ↦ inr (put_old x ys r more) ]
  | false ↦ inr c
]

same_is : (r s : RefcRec) → is_same_count r s ≡ true → r ≡ s
same_is r s h =
    let x = and_parts ((r.start == s.start) && (r.count == s.count)) (r.refcount == s.refcount) h in
    let y = and_parts (r.start == s.start) (r.count == s.count) x.0 in
    let a = eqb-true r.start s.start y.0 in
    let b = eqb-true r.count s.count y.1 in
    let c = eqb-true r.refcount s.refcount x.1 in
    λ i. record { start = a i; count = b i; refcount = c i }

same_self : (s : RefcRec) → is_same_count s s ≡ true
same_self s = ap₂ (λ (x y : Bool). x && y) (ap₂ (λ (x y : Bool). x && y) (eq-eqb s.start s.start refl) (eq-eqb s.count s.count refl)) (eq-eqb s.refcount s.refcount refl)

-- what isn't one of those that go, and what is
beside_out : (out : List RefcRec) (r s : RefcRec) → Stands s out → not (list_any (is_same_count r) out) ≡ true → r ≡ s → ⊥
beside_out [] r s c h e = absurd c
beside_out (x ∷ xs) r s c h e = by (is_same_count r x) refl h (λ rest i. beside_out xs r s rest i e)
  where
    by : (k : Bool) → is_same_count r x ≡ k → not (k || list_any (is_same_count r) xs) ≡ true → (Stands s xs → not (list_any (is_same_count r) xs) ≡ true → ⊥) → ⊥
    by true f i again = true≢false (sym i)
    by false f i again = elim c [
      | inl same ↦ true≢false (sym (same_self r) ∙ ap (is_same_count r) (e ∙ sym same) ∙ f)
      | inr rest ↦ again rest i
    ]

is_beside : (out : List RefcRec) (r : RefcRec) → ((s : RefcRec) → Stands s out → r ≡ s → ⊥) → not (list_any (is_same_count r) out) ≡ true
is_beside [] r h = refl
is_beside (x ∷ xs) r h = by (is_same_count r x) refl (is_beside xs r (λ s c. h s (inr c)))
  where
    by : (k : Bool) → is_same_count r x ≡ k → not (list_any (is_same_count r) xs) ≡ true → not (k || list_any (is_same_count r) xs) ≡ true
    by true e again = absurd (h x (inl refl) (same_is r x e))
    by false e again = again

-- ---- which record counts a block

pub kept_where : (test : RefcRec → Bool) (o : Option RefcRec) (s : RefcRec) → only_where test o ≡ Some s → (o ≡ Some s) × (test s ≡ true)
kept_where test None s h = absurd (nothing s h)
kept_where test (Some r) s h = (elim (test r) as (λ b. test r ≡ b → cond b (Some r) None ≡ Some s → (◌≡◌ {A = Option RefcRec} (Some r) (Some s)) × (test s ≡ true)) [
  | true ↦ λ p e. (e, ap test (sym (some_is r s e)) ∙ p)
  | false ↦ λ p e. absurd (nothing s e)
]) refl h

not_le : (m n : ℕ) → n < m → nat_le m n ≡ false
not_le m n lt = grind (arith, nat_tests)

is_le : (m n : ℕ) → m ≤ n → nat_le m n ≡ true
is_le m n le = grind (arith, nat_tests)

-- the last that begins at a block or before it, where it has the block
last_is : (from b : ℕ) (rs : List RefcRec) (r : RefcRec) → AreCounts from rs → Stands r rs → r.start ≤ b → b < refc_end r → last_at (λ x. x.start) b rs ≡ Some r
last_is from b [] r h d low high = absurd d
last_is from b (y ∷ ys) r h d low high =
    ap (find (λ x. nat_le x.start b)) (reverse-append (y ∷ []) ys) ∙ find_both (λ x. nat_le x.start b) (reverse ys) (y ∷ [])
    ∙ (elim d [
      | inl same ↦
          let ends : b < refc_end y = subst (λ (x : RefcRec). b < refc_end x) (sym same) high in
          let begins : y.start ≤ b = subst (λ (x : RefcRec). x.start ≤ b) (sym same) low in
          ap (λ (o : Option RefcRec). option_or o (find (λ x. nat_le x.start b) (y ∷ [])))
          (none_found (λ x. nat_le x.start b) (reverse ys) (λ x i. let f = (stands_from (y.start + y.count) ys x h.2 (reversed ys x i)).0 in not_le x.start b (omega (arith, f, ends))))
          ∙ ap (λ (k : Bool). cond k (Some y) None) (is_le y.start b begins)
          ∙ ap Some same
      | inr more ↦ ap (λ (o : Option RefcRec). option_or o (find (λ x. nat_le x.start b) (y ∷ []))) (last_is (y.start + y.count) b ys r h.2 more low high)
    ])

counter_is : (rs : List RefcRec) (b : ℕ) (r : RefcRec) → AreCounts 0 rs → Stands r rs → in_span r.start r.count b ≡ true → counter_of rs b ≡ Some r
counter_is rs b r h c i =
    let o = span_out r.start r.count b i in
    ap (only_where (λ x. nat_lt b (refc_end x))) (last_is 0 b rs r h c o.0 o.1) ∙ ap (λ (k : Bool). cond k (Some r) None) (lt-ltb b (refc_end r) o.1)

counter_has : (rs : List RefcRec) (b : ℕ) (r : RefcRec) → counter_of rs b ≡ Some r → Stands r rs × (r.start ≤ b) × (b < refc_end r)
counter_has rs b r h =
    let k = kept_where (λ x. nat_lt b (refc_end x)) (last_at (λ x. x.start) b rs) r h in
    let f = found (λ x. nat_le x.start b) (reverse rs) r k.0 in
    (reversed rs r f.0, leb-true r.start b f.1, ltb-true b (refc_end r) k.1)

pub at_some : (rs : List RefcRec) (b : ℕ) (r : RefcRec) → AreCounts 0 rs → Stands r rs → in_span r.start r.count b ≡ true → count_at rs b ≡ r.refcount
unfolding count_at
at_some rs b r h c i = ap (λ (o : Option RefcRec). option_map_or (λ x. x.refcount) o 1) (counter_is rs b r h c i)

pub at_none : (rs : List RefcRec) (b : ℕ) → ((r : RefcRec) → Stands r rs → in_span r.start r.count b ≡ false) → count_at rs b ≡ 1
unfolding count_at
at_none rs b none = by (counter_of rs b) refl
  where
    by : (o : Option RefcRec) → counter_of rs b ≡ o → option_map_or (λ x. x.refcount) o 1 ≡ 1
    by None e = refl
    by (Some r) e = let k = counter_has rs b r e in absurd (true≢false (sym (span_in r.start r.count b k.1 k.2) ∙ none r k.0))

-- a record has the block, or none has
abbrev pub Counted : List RefcRec → ℕ → Type 0
Counted rs b = ((r : RefcRec) × Stands r rs × (in_span r.start r.count b ≡ true)) ⊎ ((r : RefcRec) → Stands r rs → in_span r.start r.count b ≡ false)

pub which : (rs : List RefcRec) (b : ℕ) → Counted rs b
which [] b = inr (λ r c. absurd c)
which (x ∷ xs) b = elim (cases_Bool (in_span x.start x.count b)) [
  | inl is ↦ inl (x, inl refl, is)
  | inr isnt ↦ elim (which xs b) [
    | inl found_it ↦ inl (found_it.0, inr found_it.1, found_it.2)
    | inr none ↦ inr (λ r c. elim c [
      | inl same ↦ subst (λ (y : RefcRec). in_span y.start y.count b ≡ false) same isnt
      | inr more ↦ none r more
    ])
  ]
]

-- ---- how far a stretch reaches

first_start : (from : ℕ) (test : RefcRec → Bool) (rs : List RefcRec) (s r : RefcRec) → AreCounts from rs → find test rs ≡ Some s → Stands r rs → test r ≡ true → s.start ≤ r.start
first_start from test [] s r h f c p = absurd c
first_start from test (x ∷ xs) s r h f c p = (elim (test x) as (λ b. test x ≡ b → cond b (Some x) (find test xs) ≡ Some s → s.start ≤ r.start) [
  | true ↦ λ e i.
      let same : s.start ≡ x.start = ap (λ (y : RefcRec). y.start) (sym (some_is x s i)) in
      elim c [
        | inl is ↦ let at : x.start ≡ r.start = ap (λ (y : RefcRec). y.start) is in omega (arith, same, at)
        | inr more ↦ let f = (stands_from (x.start + x.count) xs r h.2 more).0 in omega (arith, same, f)
      ]
  | false ↦ λ e i. elim c [
    | inl is ↦ absurd (true≢false (sym p ∙ ap test (sym is) ∙ e))
    | inr more ↦ first_start (x.start + x.count) test xs s r h.2 i more p
  ]
]) refl f

module _ (rs : List RefcRec) (b n m : ℕ) (h : AreCounts 0 rs) (pos : 0 < n) (is : n ≡ stretch rs b m) where
  abbrev holder_end : ℕ
  holder_end = option_map_or refc_end (counter_of rs b) (b + m)

  abbrev next_start : ℕ
  next_start = option_map_or (λ r. r.start) (find (λ r. nat_lt b r.start) rs) (b + m)

  reaches : (b + n ≤ holder_end) × (b + n ≤ next_start)
  unfolding stretch
  reaches = (by_min n m holder_end next_start is pos, by_other n m holder_end next_start is pos)
    where
      by_min : (k l e s : ℕ) → k ≡ min l (min e s - b) → 0 < k → b + k ≤ e
      by_min k l e s i some = omega (arith, i, some)

      by_other : (k l e s : ℕ) → k ≡ min l (min e s - b) → 0 < k → b + k ≤ s
      by_other k l e s i some = omega (arith, i, some)

  -- the holder of its first block reaches over it, and no other record meets it
  covers_it : (s : RefcRec) → counter_of rs b ≡ Some s → (s.start ≤ b) × (b + n ≤ refc_end s)
  covers_it s e =
      let k = counter_has rs b s e in
      let r = reaches.0 in
      let at : holder_end ≡ refc_end s = ap (λ (o : Option RefcRec). option_map_or refc_end o (b + m)) e in
      (k.1, omega (arith, r, at))

  next_behind : (r : RefcRec) → Stands r rs → b < r.start → b + n ≤ r.start
  next_behind r c lt =
      let passes : nat_lt b r.start ≡ true = lt-ltb b r.start lt in
      let f = some_found (λ x. nat_lt b x.start) rs r c passes in
      let first = first_start 0 (λ x. nat_lt b x.start) rs f.0 r h f.1 c passes in
      let at : next_start ≡ f.0.start = ap (λ (o : Option RefcRec). option_map_or (λ x. x.start) o (b + m)) f.1 in
      let r1 = reaches.1 in
      omega (arith, first, at, r1)

  separate : (r : RefcRec) (v : ℕ) → Stands r rs → (counter_of rs b ≡ Some r) ⊎ Beside (counted b n v) r
  separate r v c = elim (cases_Bool (in_span r.start r.count b)) [
    | inl in_it ↦ inl (counter_is rs b r h c in_it)
    | inr out ↦ elim (cases_order b r.start) [
      | inl same ↦ let some = (stands_from 0 rs r h c).1 in absurd (true≢false (sym (span_in r.start r.count b (omega (arith, same)) (omega (arith, same, some))) ∙ out))
      | inr (inl less) ↦ inr (inl (next_behind r c less))
      | inr (inr more) ↦ elim (cases_order b (refc_end r)) [
        | inl at ↦ inr (inr (omega (arith, at)))
        | inr (inl inside) ↦ absurd (true≢false (sym (span_in r.start r.count b (omega (arith, more)) inside) ∙ out))
        | inr (inr behind) ↦ inr (inr (omega (arith, behind)))
      ]
    ]
  ]

  -- ---- what a cut leaves

  -- a part of a record has its count
  abbrev pub IsPart : RefcRec → RefcRec → Type 0
  IsPart r s = (s.start ≤ r.start) × (refc_end r ≤ refc_end s) × (r.refcount ≡ s.refcount)

  -- two records of these counts meet
  abbrev pub Touched : RefcRec → RefcRec → Type 0
  Touched r t = (u : RefcRec) × (w : RefcRec) × Stands u rs × Stands w rs × (refc_end u ≡ w.start) × (u.refcount ≡ r.refcount) × (w.refcount ≡ t.refcount)

  pub record CutOut (cut : List RefcRec) : Type 0 where
    pub counts : AreCounts 0 cut
    pub free : (r : RefcRec) (v : ℕ) → Stands r cut → Beside (counted b n v) r
    pub part : (r : RefcRec) → Stands r cut → (s : RefcRec) × Stands s rs × IsPart r s
    pub kept_out : (s : RefcRec) (k : ℕ) → Stands s rs → in_span s.start s.count k ≡ true → in_span b n k ≡ false → (r : RefcRec) × Stands r cut × (in_span r.start r.count k ≡ true) × (r.refcount ≡ s.refcount)
    pub touch : (r t : RefcRec) → Stands r cut → Stands t cut → refc_end r ≡ t.start → Touched r t

  itself : (s : RefcRec) → IsPart s s
  itself s = (omega arith, omega arith, refl)

  none_cut : counter_of rs b ≡ None → CutOut (filter (λ r. not (list_any (is_same_count r) [])) rs)
  none_cut e = record {
    counts = filter_counts (λ r. true) 0 rs h;
    free = λ r v c. elim (separate r v (kept (λ x. true) rs r c).0) [ inl it ↦ absurd (nothing r (sym e ∙ it)) | inr beside ↦ beside ];
    part = λ r c. (r, (kept (λ x. true) rs r c).0, itself r);
    kept_out = λ s k c i o. (s, stays (λ x. true) rs s c refl, i, refl);
    touch = λ r t c d at. (r, t, (kept (λ x. true) rs r c).0, (kept (λ x. true) rs t d).0, at, refl, refl);
  }

  module _ (s : RefcRec) (e : counter_of rs b ≡ Some s) where
    abbrev others : List RefcRec
    others = filter (λ r. not (list_any (is_same_count r) (s ∷ []))) rs

    abbrev front : RefcRec
    front = counted s.start (b - s.start) s.refcount

    abbrev back : RefcRec
    back = counted (b + n) (refc_end s - (b + n)) s.refcount

    there : Stands s rs
    there = (counter_has rs b s e).0

    other_is : (r : RefcRec) → Stands r others → Stands r rs × Beside r s
    other_is r c =
        let k = kept (λ x. not (list_any (is_same_count x) (s ∷ []))) rs r c in
        (k.0, elim (one_or_beside 0 rs r s h k.0 there) [ inl same ↦ absurd (beside_out (s ∷ []) r s (inl refl) k.1 same) | inr beside ↦ beside ])

    part_beside : (x r : RefcRec) → s.start ≤ x.start → refc_end x ≤ refc_end s → Stands r others → Beside x r
    part_beside x r low high c = elim (other_is r c).1 [
      | inl before ↦ inr (omega (arith, before, low))
      | inr behind ↦ inl (omega (arith, behind, high))
    ]

    with_back : (k : Bool) → nat_lt (b + n) (refc_end s) ≡ k → AreCounts 0 (put_all put (only_if k back) others)
    with_back true f =
        let lt = ltb-true (b + n) (refc_end s) f in
        let c = covers_it s e in
        let low = c.0 in
        put_counts back 0 others (filter_counts (λ r. not (list_any (is_same_count r) (s ∷ []))) 0 rs h) (omega arith) (omega (arith, lt)) (λ r d. part_beside back r (omega (arith, low)) (omega (arith, lt)) d)
    with_back false f = filter_counts (λ r. not (list_any (is_same_count r) (s ∷ []))) 0 rs h

    back_has : (k : Bool) (r : RefcRec) → Stands r (put_all put (only_if k back) others) → ((k ≡ true) × (back ≡ r)) ⊎ Stands r others
    back_has true r c = elim (put_has back others r c) [ inl same ↦ inl (refl, same) | inr old ↦ inr old ]
    back_has false r c = inr c

    with_both : (j k : Bool) → nat_lt s.start b ≡ j → nat_lt (b + n) (refc_end s) ≡ k → AreCounts 0 (put_all put (only_if j front ++ only_if k back) others)
    with_both true k f g =
        let lt = ltb-true s.start b f in
        let c = covers_it s e in
        let high = c.1 in
        put_counts front 0 (put_all put (only_if k back) others) (with_back k g) (omega arith) (omega (arith, lt))
        (λ r d. elim (back_has k r d) [
          | inl is_back ↦ subst (Beside front) is_back.1 (inl (omega (arith, lt)))
          | inr old ↦ part_beside front r (omega arith) (omega (arith, lt, high)) old
        ])
    with_both false k f g = with_back k g

    all_has : (j k : Bool) (r : RefcRec) → Stands r (put_all put (only_if j front ++ only_if k back) others) → ((j ≡ true) × (front ≡ r)) ⊎ (((k ≡ true) × (back ≡ r)) ⊎ Stands r others)
    all_has true k r c = elim (put_has front (put_all put (only_if k back) others) r c) [ inl same ↦ inl (refl, same) | inr old ↦ inr (back_has k r old) ]
    all_has false k r c = inr (back_has k r c)

    front_in : (j k : Bool) → j ≡ true → Stands front (put_all put (only_if j front ++ only_if k back) others)
    front_in true k f = put_new front (put_all put (only_if k back) others)
    front_in false k f = absurd (true≢false (sym f))

    back_in : (j k : Bool) → k ≡ true → Stands back (put_all put (only_if j front ++ only_if k back) others)
    back_in true true f = put_old front (put_all put (back ∷ []) others) back (put_new back others)
    back_in false true f = put_new back others
    back_in j false f = absurd (true≢false (sym f))

    other_in : (j k : Bool) (r : RefcRec) → Stands r others → Stands r (put_all put (only_if j front ++ only_if k back) others)
    other_in true true r c = put_old front (put_all put (back ∷ []) others) r (put_old back others r c)
    other_in true false r c = put_old front others r c
    other_in false true r c = put_old back others r c
    other_in false false r c = c

    -- a record beside the cut one doesn't meet the stretch
    off : (r : RefcRec) → Stands r others → (refc_end r ≡ b + n → ⊥) × (r.start ≡ b → ⊥)
    off r c =
        let o = other_is r c in
        let some = (stands_from 0 rs r h o.0).1 in
        let i = covers_it s e in
        let low = i.0 in
        let high = i.1 in
        elim o.1 [
          | inl before ↦ (λ at. omega (arith, before, low, at, pos), λ at. omega (arith, before, low, at, some))
          | inr behind ↦ (λ at. omega (arith, behind, high, at, some), λ at. omega (arith, behind, high, at, pos))
        ]

    meet : (j k : Bool) → nat_lt s.start b ≡ j → nat_lt (b + n) (refc_end s) ≡ k → (r t : RefcRec) → ((j ≡ true) × (front ≡ r)) ⊎ (((k ≡ true) × (back ≡ r)) ⊎ Stands r others) → ((j ≡ true) × (front ≡ t)) ⊎ (((k ≡ true) × (back ≡ t)) ⊎ Stands t others) → refc_end r ≡ t.start → Touched r t
    meet j k f g r t (inl x) (inl y) at = absurd (
        let lt = ltb-true s.start b (f ∙ x.0) in
        let one : refc_end front ≡ refc_end r = ap (λ (q : RefcRec). refc_end q) x.1 in
        let two : front.start ≡ t.start = ap (λ (q : RefcRec). q.start) y.1 in
        omega (arith, lt, one, two, at))
    meet j k f g r t (inl x) (inr (inl y)) at = absurd (
        let lt = ltb-true s.start b (f ∙ x.0) in
        let one : refc_end front ≡ refc_end r = ap (λ (q : RefcRec). refc_end q) x.1 in
        let two : back.start ≡ t.start = ap (λ (q : RefcRec). q.start) y.1 in
        omega (arith, lt, one, two, at, pos))
    meet j k f g r t (inl x) (inr (inr y)) at = absurd (
        let lt = ltb-true s.start b (f ∙ x.0) in
        let one : refc_end front ≡ refc_end r = ap (λ (q : RefcRec). refc_end q) x.1 in
        (off t y).1 (omega (arith, lt, one, at)))
    meet j k f g r t (inr (inl x)) (inl y) at = absurd (
        let lt = ltb-true (b + n) (refc_end s) (g ∙ x.0) in
        let c = covers_it s e in
        let low = c.0 in
        let one : refc_end back ≡ refc_end r = ap (λ (q : RefcRec). refc_end q) x.1 in
        let two : front.start ≡ t.start = ap (λ (q : RefcRec). q.start) y.1 in
        omega (arith, lt, low, one, two, at))
    meet j k f g r t (inr (inl x)) (inr (inl y)) at = absurd (
        let lt = ltb-true (b + n) (refc_end s) (g ∙ x.0) in
        let one : refc_end back ≡ refc_end r = ap (λ (q : RefcRec). refc_end q) x.1 in
        let two : back.start ≡ t.start = ap (λ (q : RefcRec). q.start) y.1 in
        omega (arith, lt, one, two, at))
    meet j k f g r t (inr (inl x)) (inr (inr y)) at =
        let lt = ltb-true (b + n) (refc_end s) (g ∙ x.0) in
        let one : refc_end back ≡ refc_end r = ap (λ (q : RefcRec). refc_end q) x.1 in
        (s, t, there, (other_is t y).0, omega (arith, lt, one, at), ap (λ (q : RefcRec). q.refcount) x.1, refl)
    meet j k f g r t (inr (inr x)) (inl y) at = (r, s, (other_is r x).0, there, at ∙ sym (ap (λ (q : RefcRec). q.start) y.1), refl, ap (λ (q : RefcRec). q.refcount) y.1)
    meet j k f g r t (inr (inr x)) (inr (inl y)) at = absurd ((off r x).0 (at ∙ sym (ap (λ (q : RefcRec). q.start) y.1)))
    meet j k f g r t (inr (inr x)) (inr (inr y)) at = (r, t, (other_is r x).0, (other_is t y).0, at, refl, refl)

    some_cut : (j k : Bool) → nat_lt s.start b ≡ j → nat_lt (b + n) (refc_end s) ≡ k → CutOut (put_all put (only_if j front ++ only_if k back) others)
    some_cut j k f g =
        let c = covers_it s e in
        let low = c.0 in
        let high = c.1 in
        record {
          counts = with_both j k f g;
          free = λ r v d. elim (all_has j k r d) [
            | inl is_front ↦ let lt = ltb-true s.start b (f ∙ is_front.0) in subst (Beside (counted b n v)) is_front.1 (inr (omega (arith, lt)))
            | inr (inl is_back) ↦ subst (Beside (counted b n v)) is_back.1 (inl (omega arith))
            | inr (inr old) ↦ elim (other_is r old).1 [
              | inl before ↦ inr (omega (arith, before, low))
              | inr behind ↦ inl (omega (arith, behind, high))
            ]
          ];
          part = λ r d. elim (all_has j k r d) [
            | inl is_front ↦ let lt = ltb-true s.start b (f ∙ is_front.0) in (s, there, subst (λ (x : RefcRec). IsPart x s) is_front.1 (omega arith, omega (arith, lt, high), refl))
            | inr (inl is_back) ↦ let lt = ltb-true (b + n) (refc_end s) (g ∙ is_back.0) in (s, there, subst (λ (x : RefcRec). IsPart x s) is_back.1 (omega (arith, low), omega (arith, lt), refl))
            | inr (inr old) ↦ (r, (other_is r old).0, itself r)
          ];
          kept_out = λ r i d in_r out. elim (cases_Bool (is_same_count r s)) [
            | inl same ↦ whole r i in_r out (same_is r s same)
            | inr other ↦ (r, other_in j k r (stays (λ x. not (list_any (is_same_count x) (s ∷ []))) rs r d (ap (λ (t : Bool). not (t || false)) other)), in_r, refl)
          ];
          touch = λ r t d i at. meet j k f g r t (all_has j k r d) (all_has j k t i) at;
        }
      where
        side : (i : ℕ) → in_span s.start s.count i ≡ true → in_span b n i ≡ false → ((nat_lt s.start b ≡ true) × (in_span s.start (b - s.start) i ≡ true)) ⊎ ((nat_lt (b + n) (refc_end s) ≡ true) × (in_span (b + n) (refc_end s - (b + n)) i ≡ true))
        side i in_s out =
            let o = span_out s.start s.count i in_s in
            let first = o.0 in
            let last = o.1 in
            elim (cases_order i b) [
              | inl same ↦ absurd (true≢false (sym (span_in b n i (omega (arith, same)) (omega (arith, same, pos))) ∙ out))
              | inr (inl less) ↦ inl (lt-ltb s.start b (omega (arith, first, less)), span_in s.start (b - s.start) i first (omega (arith, first, less)))
              | inr (inr more) ↦ elim (cases_order i (b + n)) [
                | inl at ↦ inr (lt-ltb (b + n) (refc_end s) (omega (arith, at, last)), span_in (b + n) (refc_end s - (b + n)) i (omega (arith, at)) (omega (arith, at, last)))
                | inr (inl inside) ↦ absurd (true≢false (sym (span_in b n i (omega (arith, more)) inside) ∙ out))
                | inr (inr behind) ↦ inr (lt-ltb (b + n) (refc_end s) (omega (arith, behind, last)), span_in (b + n) (refc_end s - (b + n)) i (omega (arith, behind)) (omega (arith, behind, last)))
              ]
            ]

        whole : (r : RefcRec) (i : ℕ) → in_span r.start r.count i ≡ true → in_span b n i ≡ false → r ≡ s
            → (x : RefcRec) × Stands x (put_all put (only_if j front ++ only_if k back) others) × (in_span x.start x.count i ≡ true) × (x.refcount ≡ r.refcount)
        whole r i in_r out same =
            let count : s.refcount ≡ r.refcount = ap (λ (y : RefcRec). y.refcount) (sym same) in
            elim (side i (subst (λ (y : RefcRec). in_span y.start y.count i ≡ true) same in_r) out) [
              | inl in_front ↦ (front, front_in j k (sym f ∙ in_front.0), in_front.1, count)
              | inr in_back ↦ (back, back_in j k (sym g ∙ in_back.0), in_back.1, count)
            ]

  is_cut : (o : Option RefcRec) → counter_of rs b ≡ o → CutOut (swap_counts (option_to_list o) (option_map_or (count_rest b n) o []) rs)
  is_cut None e = none_cut e
  is_cut (Some s) e = some_cut s e (nat_lt s.start b) (nat_lt (b + n) (refc_end s)) refl refl

  pub cut_is : CutOut (cut_counts rs b n)
  cut_is = is_cut (counter_of rs b) refl

  cut_counted : (k : ℕ) → count_at (cut_counts rs b n) k ≡ (if in_span b n k then 1 else count_at rs k)
  cut_counted k = by (in_span b n k) refl
    where
      beside_out_of : (r : RefcRec) → Beside (counted b n 0) r → in_span b n k ≡ true → in_span r.start r.count k ≡ false
      beside_out_of r (inl before) i = let o = span_out b n k i in let last = o.1 in span_not r.start r.count k (λ l u. omega (arith, last, before, l))
      beside_out_of r (inr behind) i = let o = span_out b n k i in let first = o.0 in span_not r.start r.count k (λ l u. omega (arith, first, behind, u))

      part_in : (r s : RefcRec) → IsPart r s → in_span r.start r.count k ≡ true → in_span s.start s.count k ≡ true
      part_in r s p i = let o = span_out r.start r.count k i in let a = p.0 in let c = p.1 in let l = o.0 in let u = o.1 in span_in s.start s.count k (omega (arith, a, l)) (omega (arith, c, u))

      by : (t : Bool) → in_span b n k ≡ t → count_at (cut_counts rs b n) k ≡ (if t then 1 else count_at rs k)
      by true i = at_none (cut_counts rs b n) k (λ r c. beside_out_of r (cut_is.free r 0 c) i)
      by false i = elim (which rs k) [
        | inl has ↦ let x = cut_is.kept_out has.0 k has.1 has.2 i in at_some (cut_counts rs b n) k x.0 cut_is.counts x.1 x.2 ∙ x.3 ∙ sym (at_some rs k has.0 h has.1 has.2)
        | inr none ↦ at_none (cut_counts rs b n) k (λ r c. elim (cases_Bool (in_span r.start r.count k)) [
          | inr out ↦ out
          | inl in_r ↦ let p = cut_is.part r c in absurd (true≢false (sym (part_in r p.0 p.2 in_r) ∙ none p.0 p.1))
        ]) ∙ sym (at_none rs k none)
      ]

  -- the blocks of the stretch have one count
  pub one_counted : (k : ℕ) → in_span b n k ≡ true → count_at rs k ≡ count_at rs b
  one_counted k i = by (counter_of rs b) refl
    where
      by : (o : Option RefcRec) → counter_of rs b ≡ o → count_at rs k ≡ count_at rs b
      by (Some s) e =
          let c = covers_it s e in
          let low = c.0 in
          let high = c.1 in
          let o = span_out b n k i in
          let first = o.0 in
          let last = o.1 in
          let t = (counter_has rs b s e).0 in
          at_some rs k s h t (span_in s.start s.count k (omega (arith, low, first)) (omega (arith, high, last)))
          ∙ sym (at_some rs b s h t (span_in s.start s.count b low (omega (arith, high, pos))))
      by None e = at_none rs k (λ r c. out r c k i) ∙ sym (at_none rs b (λ r c. out r c b (span_in b n b (omega arith) (omega (arith, pos)))))
        where
          out : (r : RefcRec) → Stands r rs → (j : ℕ) → in_span b n j ≡ true → in_span r.start r.count j ≡ false
          out r c j in_j = elim (separate r 0 c) [
            | inl it ↦ absurd (nothing r (sym e ∙ it))
            | inr (inl before) ↦ let o = span_out b n j in_j in let last = o.1 in span_not r.start r.count j (λ l u. omega (arith, last, before, l))
            | inr (inr behind) ↦ let o = span_out b n j in_j in let first = o.0 in span_not r.start r.count j (λ l u. omega (arith, first, behind, u))
          ]

-- ---- the stretch joins the records beside it

module _ (cut : List RefcRec) (b n v : ℕ) (h : AreCounts 0 cut) (pos : 0 < n) (free : (r : RefcRec) → Stands r cut → Beside (counted b n v) r) where
  abbrev pub IsBefore : Option RefcRec → Type 0
  IsBefore None = Unit {0}
  IsBefore (Some s) = Stands s cut × (refc_end s ≡ b) × (s.refcount ≡ v)

  abbrev pub IsBehind : Option RefcRec → Type 0
  IsBehind None = Unit {0}
  IsBehind (Some t) = Stands t cut × (t.start ≡ b + n) × (t.refcount ≡ v)

  pub is_before : (o : Option RefcRec) → count_before cut b v ≡ o → IsBefore o
  is_before None e = tt
  is_before (Some s) e =
      let k = kept_where (λ r. (refc_end r == b) && (r.refcount == v)) (find (λ r. nat_lt r.start b) (reverse cut)) s e in
      let f = found (λ r. nat_lt r.start b) (reverse cut) s k.0 in
      let p = and_parts (refc_end s == b) (s.refcount == v) k.1 in
      (reversed cut s f.0, eqb-true (refc_end s) b p.0, eqb-true s.refcount v p.1)

  pub is_behind : (p : Option RefcRec) → count_behind cut (b + n) v ≡ p → IsBehind p
  is_behind None e = tt
  is_behind (Some t) e =
      let k = kept_where (λ r. r.refcount == v) (find (λ r. r.start == b + n) cut) t e in
      let f = found (λ r. r.start == b + n) cut t k.0 in
      (f.0, eqb-true t.start (b + n) f.1, eqb-true t.refcount v k.1)

  abbrev pub out : Option RefcRec → Option RefcRec → List RefcRec
  out o p = option_to_list o ++ option_to_list p

  abbrev pub joined : Option RefcRec → Option RefcRec → RefcRec
  joined o p = counted (option_map_or (λ r. r.start) o b) (option_map_or (λ r. r.count) o 0 + n + option_map_or (λ r. r.count) p 0) v

  abbrev pub kept_counts : Option RefcRec → Option RefcRec → List RefcRec
  kept_counts o p = filter (λ r. not (list_any (is_same_count r) (out o p))) cut

  pub ends_at : (o p : Option RefcRec) → IsBefore o → refc_end (joined o p) ≡ b + n + option_map_or (λ r. r.count) p 0
  ends_at None p i = omega arith
  ends_at (Some s) p i = let e = i.1 in omega (arith, e)

  pub begins_at : (o p : Option RefcRec) → IsBefore o → (joined o p).start ≤ b
  begins_at None p i = omega arith
  begins_at (Some s) p i = let e = i.1 in omega (arith, e)

  ahead : (o : Option RefcRec) → IsBefore o → (r : RefcRec) → Stands r cut → ((s : RefcRec) → Stands s (option_to_list o) → r ≡ s → ⊥) → refc_end r ≤ b → refc_end r ≤ option_map_or (λ x. x.start) o b
  ahead None i r c other le = le
  ahead (Some s) i r c other le =
      let some = (stands_from 0 cut r h c).1 in
      let e = i.1 in
      elim (one_or_beside 0 cut r s h c i.0) [
        | inl same ↦ absurd (other s (inl refl) same)
        | inr (inl before) ↦ before
        | inr (inr behind) ↦ absurd (omega (arith, behind, e, le, some))
      ]

  past : (p : Option RefcRec) → IsBehind p → (r : RefcRec) → Stands r cut → ((s : RefcRec) → Stands s (option_to_list p) → r ≡ s → ⊥) → b + n ≤ r.start → b + n + option_map_or (λ x. x.count) p 0 ≤ r.start
  past None i r c other le = omega (arith, le)
  past (Some t) i r c other le =
      let some = (stands_from 0 cut r h c).1 in
      let e = i.1 in
      elim (one_or_beside 0 cut r t h c i.0) [
        | inl same ↦ absurd (other t (inl refl) same)
        | inr (inl before) ↦ absurd (omega (arith, before, e, le, some))
        | inr (inr behind) ↦ omega (arith, behind, e)
      ]

  joined_beside : (o p : Option RefcRec) → IsBefore o → IsBehind p → (r : RefcRec) → Stands r (kept_counts o p) → Beside (joined o p) r
  joined_beside o p i j r c =
      let k = kept (λ x. not (list_any (is_same_count x) (out o p))) cut r c in
      let other : (s : RefcRec) → Stands s (out o p) → r ≡ s → ⊥ = λ s d. beside_out (out o p) r s d k.1 in
      let e = ends_at o p i in
      elim (free r k.0) [
        | inl behind ↦ let q = past p j r k.0 (λ s d. other s (in_right (option_to_list o) (option_to_list p) s d)) behind in inl (omega (arith, q, e))
        | inr before ↦ inr (ahead o i r k.0 (λ s d. other s (in_left (option_to_list o) (option_to_list p) s d)) before)
      ]

  joined_counts_apart : (o p : Option RefcRec) → IsBefore o → IsBehind p → AreCounts 0 (put (joined o p) (kept_counts o p))
  joined_counts_apart o p i j = put_counts (joined o p) 0 (kept_counts o p) (filter_counts (λ x. not (list_any (is_same_count x) (out o p))) 0 cut h) (omega arith) (some (option_map_or (λ r. r.count) o 0) (option_map_or (λ r. r.count) p 0)) (joined_beside o p i j)
    where
      some : (x y : ℕ) → 0 < x + n + y
      some x y = omega (arith, pos)

  -- a block of the joined record is the stretch's, or of one of the two
  in_joined : (o p : Option RefcRec) → IsBefore o → IsBehind p → (k : ℕ) → in_span (joined o p).start (joined o p).count k ≡ true → (in_span b n k ≡ true) ⊎ (count_at cut k ≡ v)
  in_joined o p i j k in_j = elim (cases_Bool (in_span b n k)) [
    | inl is ↦ inl is
    | inr isnt ↦
        let q = span_out (joined o p).start (joined o p).count k in_j in
        let first = q.0 in
        let last = q.1 in
        elim (cases_order k b) [
          | inl same ↦ absurd (true≢false (sym (span_in b n k (omega (arith, same)) (omega (arith, same, pos))) ∙ isnt))
          | inr (inl less) ↦ inr (in_before o i first less)
          | inr (inr more) ↦ elim (cases_order k (b + n)) [
            | inl at ↦ inr (in_behind p j (omega (arith, at)) (let e = ends_at o p i in omega (arith, last, e)))
            | inr (inl inside) ↦ absurd (true≢false (sym (span_in b n k (omega (arith, more)) inside) ∙ isnt))
            | inr (inr behind) ↦ inr (in_behind p j (omega (arith, behind)) (let e = ends_at o p i in omega (arith, last, e)))
          ]
        ]
  ]
    where
      in_before : (o : Option RefcRec) → IsBefore o → option_map_or (λ r. r.start) o b ≤ k → k < b → count_at cut k ≡ v
      in_before None i low high = absurd (omega (arith, low, high))
      in_before (Some s) i low high = let e = i.1 in at_some cut k s h i.0 (span_in s.start s.count k low (omega (arith, e, high))) ∙ i.2

      in_behind : (p : Option RefcRec) → IsBehind p → b + n ≤ k → k < b + n + option_map_or (λ r. r.count) p 0 → count_at cut k ≡ v
      in_behind None j low high = absurd (omega (arith, low, high))
      in_behind (Some t) j low high = let e = j.1 in at_some cut k t h j.0 (span_in t.start t.count k (omega (arith, e, low)) (omega (arith, e, high))) ∙ j.2

  -- both lie in it
  two_inside : (o p : Option RefcRec) → IsBefore o → IsBehind p → (s : RefcRec) → Stands s (out o p) → ((joined o p).start ≤ s.start) × (refc_end s ≤ refc_end (joined o p))
  two_inside None None i j s c = absurd c
  two_inside None (Some t) i j s c = elim c [
    | inl same ↦ subst (λ (x : RefcRec). (b ≤ x.start) × (refc_end x ≤ b + (0 + n + t.count))) same (let e = j.1 in (omega (arith, e), omega (arith, e)))
    | inr none ↦ absurd none
  ]
  two_inside (Some r) None i j s c = elim c [
    | inl same ↦ subst (λ (x : RefcRec). (r.start ≤ x.start) × (refc_end x ≤ r.start + (r.count + n + 0))) same (omega arith, omega arith)
    | inr none ↦ absurd none
  ]
  two_inside (Some r) (Some t) i j s c = elim c [
    | inl same ↦ subst (λ (x : RefcRec). (r.start ≤ x.start) × (refc_end x ≤ r.start + (r.count + n + t.count))) same (omega arith, omega arith)
    | inr (inl same) ↦ subst (λ (x : RefcRec). (r.start ≤ x.start) × (refc_end x ≤ r.start + (r.count + n + t.count))) same (let e = i.1 in let f = j.1 in (omega (arith, e, f), omega (arith, e, f)))
    | inr (inr none) ↦ absurd none
  ]

  counted_by : (o p : Option RefcRec) → IsBefore o → IsBehind p → (k : ℕ) → count_at (put (joined o p) (kept_counts o p)) k ≡ (if in_span b n k then v else count_at cut k)
  counted_by o p i j k = by (in_span (joined o p).start (joined o p).count k) refl
    where
      not_in_run : in_span (joined o p).start (joined o p).count k ≡ false → in_span b n k ≡ false
      not_in_run out_j =
          let e = ends_at o p i in
          let f = begins_at o p i in
          span_not b n k (λ l u. true≢false (sym (span_in (joined o p).start (joined o p).count k (omega (arith, f, l)) (omega (arith, e, u))) ∙ out_j))

      inside_run : (t : Bool) → in_span b n k ≡ t → (in_span b n k ≡ true) ⊎ (count_at cut k ≡ v) → v ≡ (if t then v else count_at cut k)
      inside_run true e w = refl
      inside_run false e (inl is) = absurd (true≢false (sym is ∙ e))
      inside_run false e (inr is) = sym is

      outside : in_span (joined o p).start (joined o p).count k ≡ false → count_at (put (joined o p) (kept_counts o p)) k ≡ count_at cut k
      outside out_j = elim (which cut k) [
        | inl has ↦
            at_some (put (joined o p) (kept_counts o p)) k has.0 (joined_counts_apart o p i j)
            (put_old (joined o p) (kept_counts o p) has.0 (stays (λ x. not (list_any (is_same_count x) (out o p))) cut has.0 has.1 (is_beside (out o p) has.0 (λ s c e. hits s c (subst (λ (x : RefcRec). in_span x.start x.count k ≡ true) e has.2))))) has.2
            ∙ sym (at_some cut k has.0 h has.1 has.2)
        | inr none ↦
            at_none (put (joined o p) (kept_counts o p)) k (λ r c. elim (put_has (joined o p) (kept_counts o p) r c) [
              | inl same ↦ subst (λ (x : RefcRec). in_span x.start x.count k ≡ false) same out_j
              | inr old ↦ none r (kept (λ x. not (list_any (is_same_count x) (out o p))) cut r old).0
            ])
            ∙ sym (at_none cut k none)
      ]
        where
          hits : (s : RefcRec) → Stands s (out o p) → in_span s.start s.count k ≡ true → ⊥
          hits s c in_s =
              let w = two_inside o p i j s c in
              let low = w.0 in
              let high = w.1 in
              let q = span_out s.start s.count k in_s in
              let first = q.0 in
              let last = q.1 in
              true≢false (sym (span_in (joined o p).start (joined o p).count k (omega (arith, low, first)) (omega (arith, high, last))) ∙ out_j)

      by : (t : Bool) → in_span (joined o p).start (joined o p).count k ≡ t → count_at (put (joined o p) (kept_counts o p)) k ≡ (if in_span b n k then v else count_at cut k)
      by true in_j =
          at_some (put (joined o p) (kept_counts o p)) k (joined o p) (joined_counts_apart o p i j) (put_new (joined o p) (kept_counts o p)) in_j
          ∙ inside_run (in_span b n k) refl (in_joined o p i j k in_j)
      by false out_j = outside out_j ∙ ap (λ (t : Bool). if t then v else count_at cut k) (sym (not_in_run out_j))

  pub joined_counted : (k : ℕ) → count_at (join_counts cut b n v) k ≡ (if in_span b n k then v else count_at cut k)
  joined_counted k = counted_by (count_before cut b v) (count_behind cut (b + n) v) (is_before (count_before cut b v) refl) (is_behind (count_behind cut (b + n) v) refl) k

  pub joined_apart : AreCounts 0 (join_counts cut b n v)
  joined_apart = joined_counts_apart (count_before cut b v) (count_behind cut (b + n) v) (is_before (count_before cut b v) refl) (is_behind (count_behind cut (b + n) v) refl)

-- ---- both

module _ (rs : List RefcRec) (b n m v : ℕ) (h : AreCounts 0 rs) (pos : 0 < n) (is : n ≡ stretch rs b m) where
  abbrev cut : List RefcRec
  cut = cut_counts rs b n

  none_there : (r : RefcRec) → Stands r cut → Beside (counted b n v) r
  none_there r c = (cut_is rs b n m h pos is).free r v c

  new_apart : AreCounts 0 (set_count b n v rs)
  unfolding set_count
  new_apart = elim (nat_lt v 2) as (λ t. AreCounts 0 (cond t cut (join_counts cut b n v))) [
    | true ↦ (cut_is rs b n m h pos is).counts
    | false ↦ joined_apart cut b n v (cut_is rs b n m h pos is).counts pos none_there
  ]

  new_counted : (k : ℕ) → count_at (set_count b n v rs) k ≡ (if in_span b n k then shown_count v else count_at rs k)
  unfolding set_count
  new_counted k = elim (nat_lt v 2) as (λ t. count_at (cond t cut (join_counts cut b n v)) k ≡ (if in_span b n k then (if t then 1 else v) else count_at rs k)) [
    | true ↦ cut_counted rs b n m h pos is k
    | false ↦ joined_counted cut b n v (cut_is rs b n m h pos is).counts pos none_there k ∙ twice (in_span b n k) (cut_counted rs b n m h pos is k)
  ]
    where
      twice : (t : Bool) → count_at cut k ≡ (if in_span b n k then 1 else count_at rs k) → (if in_span b n k then v else count_at cut k) ≡ (if in_span b n k then v else count_at rs k)
      twice t e = outside (in_span b n k) refl e
        where
          outside : (j : Bool) → in_span b n k ≡ j → count_at cut k ≡ (if in_span b n k then 1 else count_at rs k) → (if in_span b n k then v else count_at cut k) ≡ (if in_span b n k then v else count_at rs k)
          outside true i e = ap (λ (t : Bool). if t then v else count_at cut k) i ∙ ap (λ (t : Bool). if t then v else count_at rs k) (sym i)
          outside false i e = ap (λ (t : Bool). if t then v else count_at cut k) i ∙ e ∙ ap (λ (t : Bool). if t then 1 else count_at rs k) i ∙ ap (λ (t : Bool). if t then v else count_at rs k) (sym i)

pub stretch_counted : StretchCounted
stretch_counted rs b n m v k h pos is = new_counted rs b n m v h pos is k

pub counts_stay : CountsStay
counts_stay rs b n m v h pos is = new_apart rs b n m v h pos is

pub one_count : OneCount
one_count rs b n m k h pos is i = one_counted rs b n m h pos is k i
