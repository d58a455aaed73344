-- Maximal stretches are determined by the values of the blocks.
use Rattle.std.proofs.Common.{◌≡◌, ℕ, zero, suc, ◌+◌, ◌<◌, ◌≤◌, Bool, true, false, cond, eqb, ◌&&◌, List, [], ◌∷◌, Option, Some, None, refl, ap, subst, sym, ◌∙◌, arith, inl, inr}
use Rattle.std.specs.Prelude.{nat_le, nat_lt}
use Rattle.std.proofs.lemmas.Bool.{eq-eqb, eqb-true, cases_eq, cases_lt, cases_order, lt-ltb, le-ltb, cases_Bool, true≢false}
use Rattle.std.proofs.lemmas.List.Elements.{All-cons, All-nil}
use Rattle.run_sets.specs.declared.run.Run.{Run}
use Rattle.run_sets.specs.Runs.{is_within, most, IsRun}
use Rattle.run_sets.specs.Stretches.{value_at, StaysApart, AreMaximalStretches, AreStretchesBelow, AllRuns, at_least, with_front, stretches_from, stretches}
use Rattle.run_sets.proofs.OnlyRunsLemmas.{within_true, before_false, behind_false}

module _ {V : Type 0} where
  -- ---- where the stretches have a value

  -- nothing lies before the first stretch
  before : (from : ℕ) (ss : List (Run × V)) (b : ℕ) → AreMaximalStretches from ss → b < from → value_at ss b ≡ None
  before from [] b m lt = refl
  before from (s ∷ ss) b m lt =
      let out = before_false b s.0 (omega (arith, m.0, lt)) in
      rw out (before (s.0.start + s.0.count) ss b m.3 (omega (arith, m.0, lt)))

  -- a block of the first stretch has its value
  inside : (s : Run × V) (ss : List (Run × V)) (b : ℕ) → s.0.start ≤ b → b < s.0.start + s.0.count → value_at (s ∷ ss) b ≡ Some s.1
  inside s ss b low high = let here = within_true b s.0 low high in rw here refl

  -- a block behind the first stretch has the value of the others
  behind : (s : Run × V) (ss : List (Run × V)) (b : ℕ) → s.0.start + s.0.count ≤ b → value_at (s ∷ ss) b ≡ value_at ss b
  behind s ss b back = let out = behind_false b s.0 back in rw out refl

  none_is_some : (v : V) → None ≡ Some v → ⊥
  none_is_some v is = cc

  same_value : (v w : V) → Some v ≡ Some w → v ≡ w
  same_value v w is = cc

  -- what stays apart from a value doesn't have it at that block
  other_value : (end : ℕ) (v : V) (ss : List (Run × V)) → AreMaximalStretches end ss → StaysApart end v ss → value_at ss end ≡ Some v → ⊥
  other_value end v [] m apart is = none_is_some v is
  other_value end v (s ∷ ss) m apart is = elim (cases_eq s.0.start end) [
    | inl start ↦ apart start (same_value s.1 v (sym (inside s ss end (omega (arith, start)) (omega (arith, start, m.1))) ∙ is))
    | inr ne ↦ none_is_some v (sym (before s.0.start (s ∷ ss) end (omega arith, m.1, m.2, m.3) (omega (arith, ne, m.0))) ∙ is)
  ]

  -- ---- two such lists are one

  -- where the second list begins later, the first block of the first tells them apart
  no_later : (from : ℕ) (s t : Run × V) (ss ts : List (Run × V)) → 0 < s.0.count → AreMaximalStretches from (t ∷ ts) → ((b : ℕ) → value_at (s ∷ ss) b ≡ value_at (t ∷ ts) b) → s.0.start < t.0.start → ⊥
  no_later from s t ss ts some m same lt =
      none_is_some s.1 (sym (before t.0.start (t ∷ ts) s.0.start (omega arith, m.1, m.2, m.3) lt) ∙ (sym (same s.0.start) ∙ inside s ss s.0.start (omega arith) (omega (arith, some))))

  -- where they begin at one block, they begin with one value
  one_value : (s t : Run × V) (ss ts : List (Run × V)) → s.0.start ≡ t.0.start → 0 < s.0.count → 0 < t.0.count → ((b : ℕ) → value_at (s ∷ ss) b ≡ value_at (t ∷ ts) b) → s.1 ≡ t.1
  one_value s t ss ts start some some' same =
      same_value s.1 t.1 (sym (inside s ss s.0.start (omega arith) (omega (arith, some))) ∙ (same s.0.start ∙ inside t ts s.0.start (omega (arith, start)) (omega (arith, start, some'))))

  -- where the second stretch ends later, the end of the first tells them apart
  no_longer : (s t : Run × V) (ss ts : List (Run × V)) → s.0.start ≡ t.0.start → s.1 ≡ t.1 → StaysApart (s.0.start + s.0.count) s.1 ss → AreMaximalStretches (s.0.start + s.0.count) ss → ((b : ℕ) → value_at (s ∷ ss) b ≡ value_at (t ∷ ts) b) → s.0.count < t.0.count → ⊥
  no_longer s t ss ts start value apart m same lt =
      let end : ℕ = s.0.start + s.0.count in
      let right = inside t ts end (omega (arith, start)) (omega (arith, start, lt)) in
      let left = behind s ss end (omega arith) in
      other_value end s.1 ss m apart (sym left ∙ (same end ∙ (right ∙ ap (λ (v : V). Some v) (sym value))))

  -- behind the first stretch the rests agree
  rests : (s : Run × V) (ss ts : List (Run × V)) → AreMaximalStretches (s.0.start + s.0.count) ss → AreMaximalStretches (s.0.start + s.0.count) ts → ((b : ℕ) → value_at (s ∷ ss) b ≡ value_at (s ∷ ts) b) → (b : ℕ) → value_at ss b ≡ value_at ts b
  rests s ss ts m n same b = elim (cases_lt b (s.0.start + s.0.count)) [
    | inl front ↦ before (s.0.start + s.0.count) ss b m front ∙ sym (before (s.0.start + s.0.count) ts b n front)
    | inr back ↦ sym (behind s ss b back) ∙ (same b ∙ behind s ts b back)
  ]

  same_stretch : (s t : Run × V) → s.0.start ≡ t.0.start → s.0.count ≡ t.0.count → s.1 ≡ t.1 → s ≡ t
  same_stretch s t start count value =
      let from_start : (a : ℕ) → Run × V = λ a. (record { start = a; count = s.0.count }, s.1) in
      let from_count : (a : ℕ) → Run × V = λ a. (record { start = t.0.start; count = a }, s.1) in
      let from_value : (v : V) → Run × V = λ v. (t.0, v) in
      ap from_start start ∙ (ap from_count count ∙ ap from_value value)

  only : (from : ℕ) (ss ts : List (Run × V)) → AreMaximalStretches from ss → AreMaximalStretches from ts → ((b : ℕ) → value_at ss b ≡ value_at ts b) → ss ≡ ts
  only from [] [] m n same = refl
  only from [] (t ∷ ts) m n same = absurd (none_is_some t.1 (same t.0.start ∙ inside t ts t.0.start (omega arith) (omega (arith, n.1))))
  only from (s ∷ ss) [] m n same = absurd (none_is_some s.1 (sym (same s.0.start) ∙ inside s ss s.0.start (omega arith) (omega (arith, m.1))))
  only from (s ∷ ss) (t ∷ ts) m n same = elim (cases_order s.0.start t.0.start) [
    | inr (inl lt) ↦ absurd (no_later from s t ss ts m.1 n same lt)
    | inr (inr gt) ↦ absurd (no_later from t s ts ss n.1 m (λ b. sym (same b)) gt)
    | inl start ↦
        let value = one_value s t ss ts start m.1 n.1 same in
        elim (cases_order s.0.count t.0.count) [
          | inr (inl lt) ↦ absurd (no_longer s t ss ts start value m.2 m.3 same lt)
          | inr (inr gt) ↦ absurd (no_longer t s ts ss (sym start) (sym value) n.2 n.3 (λ b. sym (same b)) gt)
          | inl count ↦
              let is : s ≡ t = same_stretch s t start count value in
              let n' : AreMaximalStretches (s.0.start + s.0.count) ts = subst (λ (x : Run × V). AreMaximalStretches (x.0.start + x.0.count) ts) (sym is) n.3 in
              let same' : (b : ℕ) → value_at (s ∷ ss) b ≡ value_at (s ∷ ts) b = λ b. same b ∙ ap (λ (x : Run × V). value_at (x ∷ ts) b) (sym is) in
              ap (λ (x : Run × V). x ∷ ss) is ∙ ap (λ (xs : List (Run × V)). t ∷ xs) (only (s.0.start + s.0.count) ss ts m.3 n' (rests s ss ts m.3 n' same'))
        ]
  ]

  pub one_stretch_list : (f : ℕ → Option V) (length : ℕ) (ss others : List (Run × V)) → AreStretchesBelow f length ss → AreStretchesBelow f length others → ss ≡ others
  one_stretch_list f length ss others h k = only 0 ss others h.maximal k.maximal (λ b. h.exact b ∙ sym (k.exact b))

  -- ---- each of them stands for blocks

  nothing_on : (s : Run × V) (ss : List (Run × V)) (b : ℕ) → value_at (s ∷ ss) b ≡ None → (s.0.start ≤ b → b < s.0.start + s.0.count → ⊥) × (value_at ss b ≡ None)
  nothing_on s ss b none = elim (cases_Bool (is_within b s.0)) [
    | inl is ↦ absurd (none_is_some s.1 (sym none ∙ rw is refl))
    | inr out ↦ (λ low high. none_is_some s.1 (sym none ∙ inside s ss b low high), rw out at none)
  ]

  all_runs : (from : ℕ) (ss : List (Run × V)) → AreMaximalStretches from ss → ((b : ℕ) → most ≤ b → value_at ss b ≡ None) → AllRuns ss
  all_runs from [] m none = All-nil (λ (s : Run × V). IsRun s.0)
  all_runs from (s ∷ ss) m none =
      All-cons (λ (s : Run × V). IsRun s.0) s ss
      (record {
        some = m.1;
        within = elim (cases_lt most (s.0.start + s.0.count)) [
          | inl lt ↦ elim (cases_lt s.0.start most) [
            | inl front ↦ absurd ((nothing_on s ss most (none most (omega arith))).0 (omega (arith, front)) lt)
            | inr back ↦ absurd ((nothing_on s ss s.0.start (none s.0.start back)).0 (omega arith) (omega (arith, m.1)))
          ]
          | inr le ↦ le
        ];
      })
      (all_runs (s.0.start + s.0.count) ss m.3 (λ b back. (nothing_on s ss b (none b back)).1))

  pub stretches_are_runs : (f : ℕ → Option V) (length : ℕ) (ss : List (Run × V)) → length ≤ most → AreStretchesBelow f length ss → AllRuns ss
  stretches_are_runs f length ss le h = all_runs 0 ss h.maximal (λ b back. let out : nat_lt b length ≡ false = le-ltb b length (omega (arith, le, back)) in h.exact b ∙ rw out refl)

-- ---- the stretches of a function to numbers are such a list

later : (a b : ℕ) (ss : List (Run × ℕ)) → a ≤ b → AreMaximalStretches b ss → AreMaximalStretches a ss
later a b [] le h = tt
later a b (s ∷ ss) le h = (omega (arith, h.0, le), h.1, h.2, h.3)

both_true : (p q : Bool) → (p && q) ≡ true → (p ≡ true) × (q ≡ true)
both_true true q h = (refl, h)
both_true false q h = absurd (true≢false (sym h))

not_both : (x y z w : ℕ) → (eqb x y && eqb z w) ≡ false → x ≡ y → z ≡ w → ⊥
not_both x y z w fails is is' = let p = eq-eqb x y is in let q = eq-eqb z w is' in let both : (eqb x y && eqb z w) ≡ true = rw (p, q) refl in true≢false (sym both ∙ fails)

front_maximal : (a v : ℕ) (ss : List (Run × ℕ)) → AreMaximalStretches (a + 1) ss → AreMaximalStretches a (with_front a v ss)
front_maximal a v [] h = (omega arith, omega arith, tt, tt)
front_maximal a v (s ∷ ss) h = elim (cases_Bool (eqb s.0.start (a + 1) && eqb s.1 v)) [
  | inl joins ↦
      let parts = both_true (eqb s.0.start (a + 1)) (eqb s.1 v) joins in
      let start = eqb-true s.0.start (a + 1) parts.0 in
      let value = eqb-true s.1 v parts.1 in
      let end : s.0.start + s.0.count ≡ a + (s.0.count + 1) = omega (arith, start) in
      rw joins (
        omega arith,
        omega arith,
        subst (λ (w : ℕ). StaysApart (a + (s.0.count + 1)) w ss) value (subst (λ (e : ℕ). StaysApart e s.1 ss) end h.2),
        subst (λ (e : ℕ). AreMaximalStretches e ss) end h.3,
      )
  | inr apart ↦ rw apart (omega arith, omega arith, not_both s.0.start (a + 1) s.1 v apart, h)
]

stretches_maximal : (f : ℕ → ℕ) (least a n : ℕ) → AreMaximalStretches a (stretches_from f least a n)
stretches_maximal f least a zero = tt
stretches_maximal f least a (suc n) = elim (cases_Bool (nat_le least (f a))) [
  | inl enough ↦ rw enough (front_maximal a (f a) (stretches_from f least (a + 1) n) (stretches_maximal f least (a + 1) n))
  | inr small ↦ rw small (later a (a + 1) (stretches_from f least (a + 1) n) (omega arith) (stretches_maximal f least (a + 1) n))
]

front_at : (a v : ℕ) (ss : List (Run × ℕ)) → value_at (with_front a v ss) a ≡ Some v
front_at a v [] = let here = within_true a (record { start = a; count = 1 }) (omega arith) (omega arith) in rw here refl
front_at a v (s ∷ ss) = either (eqb s.0.start (a + 1) && eqb s.1 v)
  where
    either : (t : Bool) → value_at (cond t ((record { start = a; count = s.0.count + 1 }, v) ∷ ss) ((record { start = a; count = 1 }, v) ∷ s ∷ ss)) a ≡ Some v
    either true = inside (record { start = a; count = s.0.count + 1 }, v) ss a (omega arith) (omega arith)
    either false = inside (record { start = a; count = 1 }, v) (s ∷ ss) a (omega arith) (omega arith)

front_behind : (a v : ℕ) (ss : List (Run × ℕ)) (b : ℕ) → a < b → value_at (with_front a v ss) b ≡ value_at ss b
front_behind a v [] b lt = behind (record { start = a; count = 1 }, v) [] b (omega (arith, lt))
front_behind a v (s ∷ ss) b lt = elim (cases_Bool (eqb s.0.start (a + 1) && eqb s.1 v)) [
  | inl joins ↦
      let parts = both_true (eqb s.0.start (a + 1)) (eqb s.1 v) joins in
      let start = eqb-true s.0.start (a + 1) parts.0 in
      let value = eqb-true s.1 v parts.1 in
      rw joins (joined start value)
  | inr apart ↦ rw apart (behind (record { start = a; count = 1 }, v) (s ∷ ss) b (omega (arith, lt)))
]
  where
    joined : s.0.start ≡ a + 1 → s.1 ≡ v → value_at ((record { start = a; count = s.0.count + 1 }, v) ∷ ss) b ≡ value_at (s ∷ ss) b
    joined start value = elim (cases_lt b (s.0.start + s.0.count)) [
      | inl front ↦ inside (record { start = a; count = s.0.count + 1 }, v) ss b (omega (arith, lt)) (omega (arith, front, start)) ∙ (ap (λ (w : ℕ). Some w) (sym value) ∙ sym (inside s ss b (omega (arith, lt, start)) front))
      | inr back ↦ behind (record { start = a; count = s.0.count + 1 }, v) ss b (omega (arith, back, start)) ∙ sym (behind s ss b back)
    ]

value_here : (f : ℕ → ℕ) (least a n : ℕ) → value_at (stretches_from f least a (suc n)) a ≡ at_least least f a
value_here f least a n = elim (cases_Bool (nat_le least (f a))) [
  | inl enough ↦ rw enough (front_at a (f a) (stretches_from f least (a + 1) n))
  | inr small ↦ rw small (before (a + 1) (stretches_from f least (a + 1) n) a (stretches_maximal f least (a + 1) n) (omega arith))
]

value_behind : (f : ℕ → ℕ) (least a n b : ℕ) → a < b → value_at (stretches_from f least a (suc n)) b ≡ value_at (stretches_from f least (a + 1) n) b
value_behind f least a n b lt = elim (cases_Bool (nat_le least (f a))) [
  | inl enough ↦ rw enough (front_behind a (f a) (stretches_from f least (a + 1) n) b lt)
  | inr small ↦ rw small refl
]

value_where : (f : ℕ → ℕ) (least a n b : ℕ) → a ≤ b → value_at (stretches_from f least a n) b ≡ cond (nat_lt b (a + n)) (at_least least f b) None
value_where f least a zero b le = let out : nat_lt b (a + 0) ≡ false = le-ltb b (a + 0) (omega (arith, le)) in rw out refl
value_where f least a (suc n) b le = elim (cases_eq a b) [
  | inl is ↦
      let within : nat_lt b (a + suc n) ≡ true = lt-ltb b (a + suc n) (omega (arith, is)) in
      rw within (subst (λ (c : ℕ). value_at (stretches_from f least a (suc n)) c ≡ at_least least f c) is (value_here f least a n))
  | inr ne ↦
      let same : (a + 1) + n ≡ a + suc n = omega arith in
      value_behind f least a n b (omega (arith, le, ne)) ∙
      subst (λ (c : ℕ). value_at (stretches_from f least (a + 1) n) b ≡ cond (nat_lt b c) (at_least least f b) None) same (value_where f least (a + 1) n b (omega (arith, le, ne)))
]

pub are_stretches_below : (f : ℕ → ℕ) (least length : ℕ) → AreStretchesBelow (at_least least f) length (stretches f least length)
unfolding stretches
are_stretches_below f least length = record {
  maximal = stretches_maximal f least 0 length;
  exact = λ b. let whole : 0 + length ≡ length = omega arith in
      subst (λ (c : ℕ). value_at (stretches f least length) b ≡ cond (nat_lt b c) (at_least least f b) None) whole (value_where f least 0 length b (omega arith));
}

pub only_stretches_below : (f : ℕ → ℕ) (least length : ℕ) (ss : List (Run × ℕ)) → AreStretchesBelow (at_least least f) length ss → ss ≡ stretches f least length
only_stretches_below f least length ss h = one_stretch_list (at_least least f) length ss (stretches f least length) h (are_stretches_below f least length)

pub stretches_if_only : (f : ℕ → ℕ) (least length : ℕ) (ss : List (Run × ℕ)) → ss ≡ stretches f least length → AreStretchesBelow (at_least least f) length ss
stretches_if_only f least length ss is = subst (λ (xs : List (Run × ℕ)). AreStretchesBelow (at_least least f) length xs) (sym is) (are_stretches_below f least length)
