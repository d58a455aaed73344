-- Lists that rise in an order, and what lies before and behind a record in them.
use Rattle.std.proofs.Common.{◌≡◌, ℕ, inl, inr, zero, suc, ◌+◌, ◌<◌, Bool, true, false, cond, List, [], ◌∷◌, ◌++◌, length, get_or, take, drop, refl, sym, ap, subst, ◌∙◌, arith, add-one, drop-cons}
use Rattle.std.specs.Prelude.{not}
use Rattle.std.specs.List.{filter}
use Rattle.std.proofs.Math.Seq.{take-suc}
use Rattle.std.proofs.lemmas.Bool.{false≢true, cases_Bool}
use Rattle.sblock.specs.Form.{Form, IsLawful}
use Rattle.sblock.specs.Lists.{IsAhead, Rises, Each}
use Rattle.xref_scrub.specs.Cursors.{IsNotBehind}
use Rattle.xref_scrub.specs.Differences.{comes_before}

-- no record comes before itself, and the order goes through
pub record IsOrder {R : Type 0} (before : R → R → Bool) : Type 0 where
  pub strict : (r : R) → before r r ≡ false
  pub along : (r s t : R) → before r s ≡ true → before s t ≡ true → before r t ≡ true

pub order_of : {R K : Type 0} (form : Form R K) → IsLawful form → IsOrder (comes_before form)
order_of form lawful = record {
  strict = λ r. lawful.strict (form.key_of r);
  along = λ r s t. lawful.along (form.key_of r) (form.key_of s) (form.key_of t);
}

pub not_true : (b : Bool) → b ≡ false → not b ≡ true
not_true b h = rw h refl

pub not_not : (b : Bool) → not b ≡ true → b ≡ false
not_not true h = cc
not_not false h = refl

-- ---- lists of which each passes a test

module _ {R : Type 0} where
  pub each_of : (p q : R → Bool) → ((r : R) → p r ≡ true → q r ≡ true) → (rs : List R) → Each p rs → Each q rs
  each_of p q more [] h = tt
  each_of p q more (r ∷ rs) h = (more r h.0, each_of p q more rs h.1)

  pub each_joined : (p : R → Bool) (rs ss : List R) → Each p rs → Each p ss → Each p (rs ++ ss)
  each_joined p [] ss h g = g
  each_joined p (r ∷ rs) ss h g = (h.0, each_joined p rs ss h.1 g)

  pub each_filtered : (p q : R → Bool) (rs : List R) → Each p rs → Each p (filter q rs)
  each_filtered p q [] h = tt
  each_filtered p q (r ∷ rs) h = kept (q r) (each_filtered p q rs h.1)
    where
      kept : (b : Bool) → Each p (filter q rs) → Each p (cond b (r ∷ filter q rs) (filter q rs))
      kept true rest = (h.0, rest)
      kept false rest = rest

  pub each_at : (p : R → Bool) (rs : List R) (k : ℕ) (d : R) → k < length rs → Each p rs → p (get_or rs k d) ≡ true
  each_at p [] k d lt h = absurd (omega arith)
  each_at p (r ∷ rs) zero d lt h = h.0
  each_at p (r ∷ rs) (suc k) d lt h = each_at p rs k d (omega arith) h.1

  -- one record more that was passed
  pub one_more_taken : (rs : List R) (k : ℕ) (r : R) → k < length rs → r ≡ get_or rs k r → take (k + 1) rs ≡ take k rs ++ r ∷ []
  one_more_taken rs k r lt e = rw add-one (take-suc rs k r lt ∙ ap (λ (s : R). take k rs ++ s ∷ []) (sym e))

  -- the record at a place, and those behind
  pub rest_at : (rs : List R) (k : ℕ) (r : R) → k < length rs → r ≡ get_or rs k r → drop k rs ≡ r ∷ drop (k + 1) rs
  rest_at rs k r lt e = rw add-one (drop-cons rs k r lt ∙ ap (λ (s : R). s ∷ drop (suc k) rs) (sym e))

-- ---- rising lists

module _ {R : Type 0} (before : R → R → Bool) (order : IsOrder before) where
  ahead_along : (r s : R) (ss : List R) → before r s ≡ true → IsAhead before s ss → IsAhead before r ss
  ahead_along r s [] h g = tt
  ahead_along r s (t ∷ ss) h g = order.along r s t h g

  -- what comes before the first comes before all
  pub before_all : (r : R) (ss : List R) → IsAhead before r ss → Rises before ss → Each (before r) ss
  before_all r [] h g = tt
  before_all r (s ∷ ss) h g = (h, before_all r ss (ahead_along r s ss h g.0) g.1)

  pub not_back : (r s : R) → before r s ≡ true → before s r ≡ false
  not_back r s h = elim (cases_Bool (before s r)) [
    | inl back ↦ absurd (false≢true (sym (order.strict r) ∙ order.along r s r h back))
    | inr none ↦ none
  ]

  -- a record that comes before another comes before all that this one isn't behind
  pub not_behind_along : (r s t : R) → before s t ≡ true → before s r ≡ false → before t r ≡ false
  not_behind_along r s t h g = elim (cases_Bool (before t r)) [
    | inl back ↦ absurd (false≢true (sym g ∙ order.along s t r h back))
    | inr none ↦ none
  ]

  -- a record that doesn't come before another comes before none in front of that one
  pub not_ahead_along : (r s t : R) → before s t ≡ true → before r t ≡ false → before r s ≡ false
  not_ahead_along r s t h g = elim (cases_Bool (before r s)) [
    | inl early ↦ absurd (false≢true (sym g ∙ order.along r s t early h))
    | inr none ↦ none
  ]

  pub rises_dropped : (k : ℕ) (rs : List R) → Rises before rs → Rises before (drop k rs)
  rises_dropped zero rs h = h
  rises_dropped (suc k) [] h = tt
  rises_dropped (suc k) (r ∷ rs) h = rises_dropped k rs h.1

  -- those in front of a place come before the record at it
  pub front_before : (rs : List R) (k : ℕ) (r : R) → k < length rs → r ≡ get_or rs k r → Rises before rs → Each (λ q. before q r) (take k rs)
  front_before [] k r lt e h = absurd (omega arith)
  front_before (s ∷ rs) zero r lt e h = tt
  front_before (s ∷ rs) (suc k) r lt e h =
      let all = before_all s rs h.0 h.1 in
      let here : before s r ≡ true = ap (before s) e ∙ each_at (before s) rs k r (omega arith) all in
      (here, front_before rs k r (omega arith) e h.1)

  pub rest_rises : (rs : List R) (k : ℕ) (r : R) → k < length rs → r ≡ get_or rs k r → Rises before rs → Rises before (r ∷ drop (k + 1) rs)
  rest_rises rs k r lt e h = subst (Rises before) (rest_at rs k r lt e) (rises_dropped k rs h)

  -- a filtered list
  pub ahead_filtered : (r : R) (q : R → Bool) (ss : List R) → IsAhead before r ss → Rises before ss → IsAhead before r (filter q ss)
  ahead_filtered r q ss h g = first (filter q ss) (each_filtered (before r) q ss (before_all r ss h g))
    where
      first : (ts : List R) → Each (before r) ts → IsAhead before r ts
      first [] all = tt
      first (t ∷ ts) all = all.0

  not_behind_all : (r : R) (ss : List R) → IsNotBehind before r ss → Rises before ss → Each (λ s. not (before s r)) ss
  not_behind_all r [] h g = tt
  not_behind_all r (s ∷ ss) h g =
      (not_true (before s r) h, each_of (before s) (λ t. not (before t r)) (λ t later. not_true (before t r) (not_behind_along r s t later h)) ss (before_all s ss g.0 g.1))

  pub not_behind_filtered : (r : R) (q : R → Bool) (ss : List R) → IsNotBehind before r ss → Rises before ss → IsNotBehind before r (filter q ss)
  not_behind_filtered r q ss h g = first (filter q ss) (each_filtered (λ s. not (before s r)) q ss (not_behind_all r ss h g))
    where
      first : (ts : List R) → Each (λ s. not (before s r)) ts → IsNotBehind before r ts
      first [] all = tt
      first (t ∷ ts) all = not_not (before t r) all.0
