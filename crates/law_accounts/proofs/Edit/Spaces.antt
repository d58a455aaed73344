-- Free space that mappings leave, where a run leaves it or joins it.
use Rattle.std.specs.Prelude.{ℕ, Bool, true, false, not, List, [], ◌∷◌, ◌++◌, map, filter, find, reverse, Option, Some, None, ◌≡◌, ◌⊎◌, ◌==◌, ◌&&◌, ◌||◌, ◌+◌, ◌-◌, ◌<◌, ◌≤◌, nat_le, nat_lt, is_some, option_to_list, refl, if◌then◌else◌}
use Rattle.std.specs.List.{list_any}
use Rattle.std.specs.Option.{option_map_or, option_or}
use Rattle.std.proofs.Common.{sym, ap, ap₂, subst, ◌∙◌, arith, cond, inl, inr}
use Rattle.std.proofs.lemmas.Bool.{cases_Bool, cases_order, eq-eqb, eqb-true, leb-true, lt-ltb, ltb-true, true≢false}
use Rattle.std.proofs.lemmas.List.{reverse-append}
use Rattle.derive_defs.specs.Free.{AreFree, free_space, is_free, run_of}
use Rattle.derive_defs.specs.Mappings.{covers}
use Rattle.derive_defs.proofs.SpaceLemmas.{are_free, only_free}
use Rattle.fs_change.specs.Records.{before_run, behind_run, beside_run, by_start, end_of, give_span, has_span, holder_of, joined_run, last_at, only_where, put_all, rest_of, span, take_span}
use Rattle.fs_state.specs.Lists.{only_if}
use Rattle.rmap_recs.specs.declared.records.RmapRec.{RmapRec}
use Rattle.run_sets.specs.Runs.{AreMaximal, holds}
use Rattle.span_recs.specs.declared.span.SpanRec.{SpanRec}
use Rattle.law_accounts.specs.Account.Accounts.{at_span, covers_at, in_span, spans_at}
use Rattle.law_accounts.specs.Account.Space.{AreApart}
use Rattle.law_accounts.proofs.Account.Free.{given_spans, taken_spans}
use Rattle.law_accounts.proofs.Account.Spans.{span_in, span_not, span_out}
use Rattle.law_accounts.specs.Edit.Space.{AreBare, CoverMore, FreeGiven, FreeTaken, SameFree}
use Rattle.law_accounts.proofs.Edit.Gaps.{Gap, Stands, beside, filter_apart, found, kept, one_or_gap, put_apart, put_has, reversed, stands_from}

-- ---- a run leaves

kept_where : (test : SpanRec → Bool) (o : Option SpanRec) (s : SpanRec) → only_where test o ≡ Some s → (o ≡ Some s) × (test s ≡ true)
kept_where test None s h = absurd (nothing h)
  where
    nothing : ◌≡◌ {A = Option SpanRec} None (Some s) → ⊥
    nothing e = cc
kept_where test (Some r) s h = (elim (test r) as (λ b. test r ≡ b → cond b (Some r) None ≡ Some s → (◌≡◌ {A = Option SpanRec} (Some r) (Some s)) × (test s ≡ true)) [
  | true ↦ λ p e. (e, ap test (sym (out e)) ∙ p)
  | false ↦ λ p e. absurd (nothing e)
]) refl h
  where
    nothing : ◌≡◌ {A = Option SpanRec} None (Some s) → ⊥
    nothing e = cc

    out : ◌≡◌ {A = Option SpanRec} (Some r) (Some s) → r ≡ s
    out e = cc

whole_of : (o : Option SpanRec) → is_some o ≡ true → (s : SpanRec) × (o ≡ Some s)
whole_of None h = absurd (true≢false (sym h))
whole_of (Some s) h = (s, refl)

-- the record that holds a run
pub record Holder (rs : List SpanRec) (run s : SpanRec) : Type 0 where
  pub there : Stands s rs
  pub starts : s.start ≤ run.start
  pub ends : end_of run ≤ end_of s

holder : (rs : List SpanRec) (run s : SpanRec) → holder_of rs run ≡ Some s → Holder rs run s
holder rs run s h =
    let k = kept_where (λ r. nat_le (end_of run) (end_of r)) (last_at (λ r. r.start) run.start rs) s h in
    let f = found (λ r. nat_le r.start run.start) (reverse rs) s k.0 in
    record { there = reversed rs s f.0; starts = leb-true s.start run.start f.1; ends = leb-true (end_of run) (end_of s) k.1 }

-- a part of a record has a gap where the record has one
part_gap : (s x r : SpanRec) → s.start ≤ x.start → end_of x ≤ end_of s → (r ≡ s) ⊎ Gap r s → (r ≡ s → ⊥) → Gap x r
part_gap s x r low high (inl same) other = absurd (other same)
part_gap s x r low high (inr (inl before)) other = inr (omega (arith, before, low))
part_gap s x r low high (inr (inr behind)) other = inl (omega (arith, behind, high))

module _ (rs : List SpanRec) (run s : SpanRec) (apart : AreApart 0 rs) (pos : 0 < run.count) (h : Holder rs run s) where
  abbrev rest : List SpanRec
  rest = filter (λ r. not (has_span (s ∷ []) r)) rs

  abbrev front : SpanRec
  front = span s.start (run.start - s.start)

  abbrev back : SpanRec
  back = span (end_of run) (end_of s - end_of run)

  apart_rest : AreApart 0 rest
  apart_rest = filter_apart (λ r. not (has_span (s ∷ []) r)) 0 rs apart

  beside_part : (x : SpanRec) → s.start ≤ x.start → end_of x ≤ end_of s → (r : SpanRec) → Stands r rest → Gap x r
  beside_part x low high r c =
      let k = kept (λ y. not (has_span (s ∷ []) y)) rs r c in
      part_gap s x r low high (one_or_gap 0 rs r s apart k.0 h.there) (beside (s ∷ []) r s (inl refl) k.1)

  with_back : (k : Bool) → nat_lt (end_of run) (end_of s) ≡ k → AreApart 0 (put_all by_start (only_if k back) rest)
  with_back true e =
      let lt = ltb-true (end_of run) (end_of s) e in
      let low = h.starts in
      put_apart back 0 rest apart_rest (omega arith) (omega (arith, lt)) (beside_part back (omega (arith, low)) (omega (arith, lt)))
  with_back false e = apart_rest

  front_gap : s.start < run.start → (k : Bool) → nat_lt (end_of run) (end_of s) ≡ k → (r : SpanRec) → Stands r (put_all by_start (only_if k back) rest) → Gap front r
  front_gap lt true e r c = elim (put_has back rest r c) [
    | inl same ↦ subst (Gap front) same (inl (omega (arith, lt, pos)))
    | inr old ↦ let high = h.ends in beside_part front (omega arith) (omega (arith, lt, high)) r old
  ]
  front_gap lt false e r c = let high = h.ends in beside_part front (omega arith) (omega (arith, lt, high)) r c

  with_both : (m k : Bool) → nat_lt s.start run.start ≡ m → nat_lt (end_of run) (end_of s) ≡ k → AreApart 0 (put_all by_start (only_if m front ++ only_if k back) rest)
  with_both true k e f =
      let lt = ltb-true s.start run.start e in
      put_apart front 0 (put_all by_start (only_if k back) rest) (with_back k f) (omega arith) (omega (arith, lt)) (front_gap lt k f)
  with_both false k e f = with_back k f

pub take_apart : (rs : List SpanRec) (run : SpanRec) → AreApart 0 rs → 0 < run.count → is_some (holder_of rs run) ≡ true → AreApart 0 (take_span by_start rs run rs)
unfolding take_span
take_apart rs run apart pos some =
    let w = whole_of (holder_of rs run) some in
    subst (λ (o : Option SpanRec). AreApart 0 (put_all by_start (option_map_or (rest_of run) o []) (filter (λ r. not (has_span (option_to_list o) r)) rs))) (sym w.1)
    (with_both rs run w.0 apart pos (holder rs run w.0 w.1) (nat_lt w.0.start run.start) (nat_lt (end_of run) (end_of w.0)) refl refl)

-- ---- a run joins

find_both : (test : SpanRec → Bool) (xs ys : List SpanRec) → find test (xs ++ ys) ≡ option_or (find test xs) (find test ys)
find_both test [] ys = refl
find_both test (x ∷ xs) ys = (elim (test x) as (λ b. cond b (Some x) (find test (xs ++ ys)) ≡ option_or (cond b (Some x) (find test xs)) (find test ys)) [
  | true ↦ refl
  | false ↦ find_both test xs ys
])

none_found : (test : SpanRec → Bool) (rs : List SpanRec) → ((r : SpanRec) → Stands r rs → test r ≡ false) → find test rs ≡ None
none_found test [] h = refl
none_found test (r ∷ rs) h = rw (h r (inl refl)) (none_found test rs (λ x c. h x (inr c)))

some_found : (test : SpanRec → Bool) (rs : List SpanRec) (r : SpanRec) → Stands r rs → test r ≡ true → (s : SpanRec) × (find test rs ≡ Some s)
some_found test [] r c p = absurd c
some_found test (x ∷ xs) r c p = elim (test x) as (λ b. test x ≡ b → (s : SpanRec) × (cond b (Some x) (find test xs) ≡ Some s)) [
  | true ↦ λ e. (x, refl)
  | false ↦ λ e. elim c [
    | inl same ↦ absurd (true≢false (sym p ∙ ap test (sym same) ∙ e))
    | inr later ↦ some_found test xs r later p
  ]
] refl

not_below : (m n : ℕ) → n ≤ m → nat_lt m n ≡ false
not_below m n le = elim (cases_Bool (nat_lt m n)) [
  | inl is ↦ let lt = ltb-true m n is in absurd (omega (arith, lt, le))
  | inr isnt ↦ isnt
]

-- the last that begins before the end of a record is that record
last_before : (from c : ℕ) (rs : List SpanRec) (r : SpanRec) → AreApart from rs → Stands r rs → end_of r ≡ c → find (λ x. nat_lt x.start c) (reverse rs) ≡ Some r
last_before from c [] r h d e = absurd d
last_before from c (y ∷ ys) r h d e =
    ap (find (λ x. nat_lt x.start c)) (reverse-append (y ∷ []) ys) ∙ find_both (λ x. nat_lt x.start c) (reverse ys) (y ∷ [])
    ∙ (elim d [
      | inl same ↦
          let pos = h.1 in
          let ends : end_of y ≡ c = ap end_of same ∙ e in
          ap (λ (o : Option SpanRec). option_or o (find (λ x. nat_lt x.start c) (y ∷ [])))
          (none_found (λ x. nat_lt x.start c) (reverse ys) (λ x i. let f = (stands_from (y.start + y.count + 1) ys x h.2 (reversed ys x i)).0 in not_below x.start c (omega (arith, f, ends))))
          ∙ ap (λ (b : Bool). cond b (Some y) None) (lt-ltb y.start c (omega (arith, ends, pos)))
          ∙ ap Some same
      | inr later ↦ ap (λ (o : Option SpanRec). option_or o (find (λ x. nat_lt x.start c) (y ∷ []))) (last_before (y.start + y.count + 1) c ys r h.2 later e)
    ])

module _ (rs : List SpanRec) (run : SpanRec) (apart : AreApart 0 rs) (pos : 0 < run.count) where
  -- what is known of the record before the run, and of the one behind it
  abbrev IsBefore : Option SpanRec → Type 0
  IsBefore None = (r : SpanRec) → Stands r rs → end_of r ≡ run.start → ⊥
  IsBefore (Some s) = Stands s rs × (end_of s ≡ run.start) × ((r : SpanRec) → Stands r rs → end_of r ≡ run.start → r ≡ s)

  abbrev IsBehind : Option SpanRec → Type 0
  IsBehind None = (r : SpanRec) → Stands r rs → r.start ≡ end_of run → ⊥
  IsBehind (Some t) = Stands t rs × (t.start ≡ end_of run) × ((r : SpanRec) → Stands r rs → r.start ≡ end_of run → r ≡ t)

  is_found : (r : SpanRec) → Stands r rs → end_of r ≡ run.start → before_run rs run ≡ Some r
  is_found r c e =
      ap (only_where (λ x. end_of x == run.start)) (last_before 0 run.start rs r apart c e)
      ∙ ap (λ (b : Bool). cond b (Some r) None) (eq-eqb (end_of r) run.start e)

  is_before : (o : Option SpanRec) → before_run rs run ≡ o → IsBefore o
  is_before None h = λ r c e. nothing r (sym (is_found r c e) ∙ h)
    where
      nothing : (r : SpanRec) → ◌≡◌ {A = Option SpanRec} (Some r) None → ⊥
      nothing r e = cc
  is_before (Some s) h =
      let k = kept_where (λ r. end_of r == run.start) (find (λ r. nat_lt r.start run.start) (reverse rs)) s h in
      let f = found (λ r. nat_lt r.start run.start) (reverse rs) s k.0 in
      (reversed rs s f.0, eqb-true (end_of s) run.start k.1, λ r c e. out r (sym (is_found r c e) ∙ h))
    where
      out : (r : SpanRec) → ◌≡◌ {A = Option SpanRec} (Some r) (Some s) → r ≡ s
      out r e = cc

  same_start : (r t : SpanRec) → Stands r rs → Stands t rs → r.start ≡ t.start → r ≡ t
  same_start r t c d e = elim (one_or_gap 0 rs r t apart c d) [
    | inl same ↦ same
    | inr (inl before) ↦ absurd (omega (arith, before, e))
    | inr (inr behind) ↦ absurd (omega (arith, behind, e))
  ]

  is_behind : (p : Option SpanRec) → behind_run rs run ≡ p → IsBehind p
  is_behind None h = λ r c e. let f = some_found (λ x. x.start == end_of run) rs r c (eq-eqb r.start (end_of run) e) in nothing f.0 (sym f.1 ∙ h)
    where
      nothing : (r : SpanRec) → ◌≡◌ {A = Option SpanRec} (Some r) None → ⊥
      nothing r e = cc
  is_behind (Some t) h =
      let f = found (λ r. r.start == end_of run) rs t h in
      let at : t.start ≡ end_of run = eqb-true t.start (end_of run) f.1 in
      (f.0, at, λ r c e. same_start r t c f.0 (e ∙ sym at))

  abbrev joined : Option SpanRec → Option SpanRec → SpanRec
  joined o p = span (option_map_or (λ r. r.start) o run.start) (option_map_or (λ r. r.count) o 0 + run.count + option_map_or (λ r. r.count) p 0)

  abbrev out : Option SpanRec → Option SpanRec → List SpanRec
  out o p = option_to_list o ++ option_to_list p

  module _ (free : (b : ℕ) → in_span run.start run.count b ≡ true → spans_at rs b ≡ 0) where
    some_span : (xs : List SpanRec) (r : SpanRec) (b : ℕ) → Stands r xs → in_span r.start r.count b ≡ true → 1 ≤ spans_at xs b
    some_span [] r b c h = absurd c
    some_span (x ∷ xs) r b c h = elim c [
      | inl same ↦ let one : at_span x.start x.count b ≡ 1 = ap (λ (y : SpanRec). at_span y.start y.count b) same ∙ ap (λ (k : Bool). if k then 1 else 0) h in omega (arith, one)
      | inr later ↦ let rest = some_span xs r b later h in omega (arith, rest)
    ]

    clashes : (r : SpanRec) (b : ℕ) → Stands r rs → r.start ≤ b → b < end_of r → run.start ≤ b → b < end_of run → ⊥
    clashes r b c l h m n =
        let some = some_span rs r b c (span_in r.start r.count b l h) in
        let none = free b (span_in run.start run.count b m n) in
        omega (arith, some, none)

    -- no record has a block of the run
    separate : (r : SpanRec) → Stands r rs → (end_of r ≤ run.start) ⊎ (end_of run ≤ r.start)
    separate r c =
        let some = (stands_from 0 rs r apart c).1 in
        elim (cases_order r.start run.start) [
          | inl same ↦ absurd (clashes r r.start c (omega arith) (omega (arith, some)) (omega (arith, same)) (omega (arith, same, pos)))
          | inr (inl less) ↦ elim (cases_order (end_of r) run.start) [
            | inl at ↦ inl (omega (arith, at))
            | inr (inl below) ↦ inl (omega (arith, below))
            | inr (inr above) ↦ absurd (clashes r run.start c (omega (arith, less)) (omega (arith, above)) (omega arith) (omega (arith, pos)))
          ]
          | inr (inr more) ↦ elim (cases_order r.start (end_of run)) [
            | inl at ↦ inr (omega (arith, at))
            | inr (inl below) ↦ absurd (clashes r r.start c (omega arith) (omega (arith, some)) (omega (arith, more)) (omega (arith, below)))
            | inr (inr above) ↦ inr (omega (arith, above))
          ]
        ]

    ahead : (o : Option SpanRec) → IsBefore o → (r : SpanRec) → Stands r rs → ((s : SpanRec) → Stands s (option_to_list o) → r ≡ s → ⊥) → end_of r ≤ run.start → end_of r + 1 ≤ option_map_or (λ x. x.start) o run.start
    ahead None h r c other le = elim (cases_order (end_of r) run.start) [
      | inl at ↦ absurd (h r c at)
      | inr (inl below) ↦ omega (arith, below)
      | inr (inr above) ↦ absurd (omega (arith, above, le))
    ]
    ahead (Some s) h r c other le =
        let some = (stands_from 0 rs r apart c).1 in
        let ends = h.1 in
        elim (one_or_gap 0 rs r s apart c h.0) [
          | inl same ↦ absurd (other s (inl refl) same)
          | inr (inl before) ↦ before
          | inr (inr behind) ↦ absurd (omega (arith, behind, ends, le, some))
        ]

    abbrev end_at : Option SpanRec → ℕ
    end_at p = end_of run + option_map_or (λ x. x.count) p 0

    past : (p : Option SpanRec) → IsBehind p → (r : SpanRec) → Stands r rs → ((s : SpanRec) → Stands s (option_to_list p) → r ≡ s → ⊥) → end_of run ≤ r.start → end_at p + 1 ≤ r.start
    past None h r c other le = elim (cases_order r.start (end_of run)) [
      | inl at ↦ absurd (h r c at)
      | inr (inl below) ↦ absurd (omega (arith, below, le))
      | inr (inr above) ↦ omega (arith, above)
    ]
    past (Some t) h r c other le =
        let some = (stands_from 0 rs r apart c).1 in
        let starts = h.1 in
        elim (one_or_gap 0 rs r t apart c h.0) [
          | inl same ↦ absurd (other t (inl refl) same)
          | inr (inl before) ↦ absurd (omega (arith, before, starts, le, some))
          | inr (inr behind) ↦ omega (arith, behind, starts)
        ]

    joined_end : (o p : Option SpanRec) → IsBefore o → end_of (joined o p) ≡ end_at p
    joined_end None p h = omega arith
    joined_end (Some s) p h = let ends = h.1 in omega (arith, ends)

    in_left : (xs ys : List SpanRec) (s : SpanRec) → Stands s xs → Stands s (xs ++ ys)
    in_left [] ys s c = absurd c
    in_left (x ∷ xs) ys s c = elim c [ inl same ↦ inl same | inr later ↦ inr (in_left xs ys s later) ]

    in_right : (xs ys : List SpanRec) (s : SpanRec) → Stands s ys → Stands s (xs ++ ys)
    in_right [] ys s c = c
    in_right (x ∷ xs) ys s c = inr (in_right xs ys s c)

    joined_gap : (o p : Option SpanRec) → IsBefore o → IsBehind p → (r : SpanRec) → Stands r (filter (λ x. not (has_span (out o p) x)) rs) → Gap (joined o p) r
    joined_gap o p h i r c =
        let k = kept (λ x. not (has_span (out o p) x)) rs r c in
        let other : (s : SpanRec) → Stands s (out o p) → r ≡ s → ⊥ = λ s d. beside (out o p) r s d k.1 in
        let ends = joined_end o p h in
        elim (separate r k.0) [
          | inl before ↦ inr (ahead o h r k.0 (λ s d. other s (in_left (option_to_list o) (option_to_list p) s d)) before)
          | inr behind ↦ let q = past p i r k.0 (λ s d. other s (in_right (option_to_list o) (option_to_list p) s d)) behind in inl (omega (arith, q, ends))
        ]

    given_by : (o p : Option SpanRec) → IsBefore o → IsBehind p → AreApart 0 (put_all by_start (joined o p ∷ []) (filter (λ x. not (has_span (out o p) x)) rs))
    given_by o p h i =
        put_apart (joined o p) 0 (filter (λ x. not (has_span (out o p) x)) rs) (filter_apart (λ x. not (has_span (out o p) x)) 0 rs apart) (omega arith) (some_blocks (option_map_or (λ r. r.count) o 0) (option_map_or (λ r. r.count) p 0)) (joined_gap o p h i)
      where
        some_blocks : (m n : ℕ) → 0 < m + run.count + n
        some_blocks m n = omega (arith, pos)

    pub give_apart : AreApart 0 (give_span by_start rs run rs)
    unfolding give_span
    give_apart = given_by (before_run rs run) (behind_run rs run) (is_before (before_run rs run) refl) (is_behind (behind_run rs run) refl)

-- ---- which blocks lie in them

pub apart_maximal : (from : ℕ) (rs : List SpanRec) → AreApart from rs → AreMaximal from (map run_of rs)
apart_maximal from [] h = tt
apart_maximal from (r ∷ rs) h = (h.0, h.1, apart_maximal (r.start + r.count + 1) rs h.2)

pub maximal_apart : (from : ℕ) (rs : List SpanRec) → AreMaximal from (map run_of rs) → AreApart from rs
maximal_apart from [] h = tt
maximal_apart from (r ∷ rs) h = (h.0, h.1, maximal_apart (r.start + r.count + 1) rs h.2)

module _ (b : ℕ) where
  one_more : (k : Bool) (h : Bool) (n : ℕ) → h ≡ nat_lt 0 n → (k || h) ≡ nat_lt 0 ((if k then 1 else 0) + n)
  one_more true h n e = sym (lt-ltb 0 (1 + n) (omega arith))
  one_more false h n e = e ∙ ap (nat_lt 0) (zero_more n)
    where
      zero_more : (m : ℕ) → m ≡ 0 + m
      zero_more m = omega arith

  pub has_spans : (rs : List SpanRec) → holds (map run_of rs) b ≡ nat_lt 0 (spans_at rs b)
  has_spans [] = refl
  has_spans (r ∷ rs) = one_more (in_span r.start r.count b) (holds (map run_of rs) b) (spans_at rs b) (has_spans rs)

  pub any_covers : (ms : List RmapRec) → list_any (covers b) ms ≡ nat_lt 0 (covers_at ms b)
  any_covers [] = refl
  any_covers (r ∷ ms) = one_more (in_span r.start r.count b) (list_any (covers b) ms) (covers_at ms b) (any_covers ms)

  pub free_covers : (ms : List RmapRec) → is_free ms b ≡ not (nat_lt 0 (covers_at ms b))
  unfolding is_free
  free_covers ms = ap not (any_covers ms)

  none_before : (from : ℕ) (rs : List SpanRec) → AreApart from rs → b < from → spans_at rs b ≡ 0
  none_before from [] h lt = refl
  none_before from (r ∷ rs) h lt =
      let f = h.0 in
      let out : at_span r.start r.count b ≡ 0 = ap (λ (k : Bool). if k then 1 else 0) (span_not r.start r.count b (λ l m. omega (arith, l, f, lt))) in
      let rest = none_before (r.start + r.count + 1) rs h.2 (omega (arith, f, lt)) in
      omega (arith, out, rest)

  pub at_most_one : (from : ℕ) (rs : List SpanRec) → AreApart from rs → spans_at rs b ≤ 1
  at_most_one from [] h = omega arith
  at_most_one from (r ∷ rs) h = (elim (in_span r.start r.count b) as (λ k. in_span r.start r.count b ≡ k → (if k then 1 else 0) + spans_at rs b ≤ 1) [
    | true ↦ λ e. let high = (span_out r.start r.count b e).1 in let z = none_before (r.start + r.count + 1) rs h.2 (omega (arith, high)) in omega (arith, z)
    | false ↦ λ e. let o = at_most_one (r.start + r.count + 1) rs h.2 in omega (arith, o)
  ]) refl

and_none : (l : Bool) → false ≡ (l && false)
and_none true = refl
and_none false = refl

at_bit : (s n b : ℕ) → (at_span s n b ≡ 0) ⊎ ((at_span s n b ≡ 1) × (in_span s n b ≡ true))
at_bit s n b = (elim (in_span s n b) as (λ k. in_span s n b ≡ k → (◌≡◌ {A = ℕ} (if k then 1 else 0) 0) ⊎ ((◌≡◌ {A = ℕ} (if k then 1 else 0) 1) × (k ≡ true))) [
  | true ↦ λ e. inr (refl, refl)
  | false ↦ λ e. inl refl
]) refl

module _ (len : ℕ) (ms ns : List RmapRec) (run : SpanRec) (pos : 0 < run.count) where
  abbrev fs : List SpanRec
  fs = free_space len ms

  were : AreFree len ms fs
  were = are_free len ms fs refl

  pub apart : AreApart 0 fs
  apart = maximal_apart 0 fs were.maximal

  pub listed : (b : ℕ) → nat_lt 0 (spans_at fs b) ≡ (nat_lt b len && not (nat_lt 0 (covers_at ms b)))
  listed b = sym (has_spans b fs) ∙ were.exact b ∙ ap (λ (k : Bool). nat_lt b len && k) (free_covers b ms)

  abbrev IsListed : List SpanRec → ℕ → Type 0
  IsListed rs b = nat_lt 0 (spans_at rs b) ≡ (nat_lt b len && not (nat_lt 0 (covers_at ns b)))

  -- a list apart that has just the blocks that no mapping covers is the one
  by_blocks : (rs : List SpanRec) → AreApart 0 rs → ((b : ℕ) → IsListed rs b) → rs ≡ free_space len ns
  by_blocks rs h each = only_free len ns rs (record {
    maximal = apart_maximal 0 rs h;
    exact = λ b. has_spans b rs ∙ each b ∙ ap (λ (k : Bool). nat_lt b len && k) (sym (free_covers b ns));
  })

  same_listed : (rs : List SpanRec) (b : ℕ) → spans_at rs b ≡ spans_at fs b → covers_at ns b ≡ covers_at ms b → IsListed rs b
  same_listed rs b e f = ap (nat_lt 0) e ∙ listed b ∙ ap (λ (n : ℕ). nat_lt b len && not (nat_lt 0 n)) (sym f)

  taken : CoverMore run ms ns → is_some (holder_of fs run) ≡ true → take_span by_start fs run fs ≡ free_space len ns
  taken more some = by_blocks (take_span by_start fs run fs) (take_apart fs run apart pos some) (λ b.
      let e = taken_spans fs run b apart some in
      let c = more b in
      elim (at_bit run.start run.count b) [
        | inl none ↦ same_listed (take_span by_start fs run fs) b (omega (arith, e, none)) (omega (arith, c, none))
        | inr one ↦
            let is = one.0 in
            let most = at_most_one b 0 fs apart in
            let gone : spans_at (take_span by_start fs run fs) b ≡ 0 = omega (arith, e, is, most) in
            ap (nat_lt 0) gone ∙ and_none (nat_lt b len) ∙ ap (λ (k : Bool). nat_lt b len && not k) (sym (lt-ltb 0 (covers_at ns b) (omega (arith, c, is))))
      ])

  given : run.start + run.count ≤ len → CoverMore run ns ms → AreBare run ns → give_span by_start fs run fs ≡ free_space len ns
  given inside more bare = by_blocks (give_span by_start fs run fs) (give_apart fs run apart pos unlisted) (λ b.
      let e = given_spans fs run b apart pos in
      let c = more b in
      elim (at_bit run.start run.count b) [
        | inl none ↦ same_listed (give_span by_start fs run fs) b (omega (arith, e, none)) (omega (arith, c, none))
        | inr one ↦
            let is = one.0 in
            let high = (span_out run.start run.count b one.1).1 in
            lt-ltb 0 (spans_at (give_span by_start fs run fs) b) (omega (arith, e, is))
            ∙ ap₂ (λ (k : Bool) (n : ℕ). k && not (nat_lt 0 n)) (sym (lt-ltb b len (omega (arith, high, inside)))) (sym (bare b one.1))
      ])
    where
      unlisted : (b : ℕ) → in_span run.start run.count b ≡ true → spans_at fs b ≡ 0
      unlisted b h =
          let c = more b in
          let one : at_span run.start run.count b ≡ 1 = ap (λ (k : Bool). if k then 1 else 0) h in
          none_left (spans_at fs b) (listed b ∙ ap (λ (k : Bool). nat_lt b len && not k) (lt-ltb 0 (covers_at ms b) (omega (arith, c, one))) ∙ sym (and_none (nat_lt b len)))
        where
          none_left : (n : ℕ) → nat_lt 0 n ≡ false → n ≡ 0
          none_left n e = elim (cases_order n 0) [
            | inl z ↦ z
            | inr (inl less) ↦ absurd (omega (arith, less))
            | inr (inr some) ↦ absurd (true≢false (sym (lt-ltb 0 n some) ∙ e))
          ]

pub free_taken : FreeTaken
free_taken len ms ns run pos more some = taken len ms ns run pos more some

pub free_given : FreeGiven
free_given len ms ns run pos inside more bare = given len ms ns run pos inside more bare

pub same_free : SameFree
same_free len ms ns e = sym (only_free len ns (free_space len ms) (record {
  maximal = (are_free len ms (free_space len ms) refl).maximal;
  exact = λ b. (are_free len ms (free_space len ms) refl).exact b ∙ ap (λ (k : Bool). nat_lt b len && k) (free_covers b ms ∙ ap (λ (n : ℕ). not (nat_lt 0 n)) (sym (e b)) ∙ sym (free_covers b ns));
}))
