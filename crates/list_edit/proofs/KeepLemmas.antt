-- What an edit keeps of a list.
use Rattle.std.proofs.Common.{◌≡◌, suc, Bool, true, false, List, [], ◌∷◌, length, refl, sym, ap, subst, ◌∙◌, inl, inr, Ok, Err}
use Rattle.std.specs.Prelude.{◌⊎◌, ◌||◌, ◌&&◌, not, if◌then◌else◌}
use Rattle.std.specs.List.{list_any}
use Rattle.std.proofs.lemmas.Bool.{false≢true}
use Rattle.sblock.specs.Blocks.{IsRising}
use Rattle.sblock.specs.Form.{Form, IsLawful, same_key}
use Rattle.sblock.specs.Lists.{IsAhead, Rises, Each}
use Rattle.sblock.specs.Meets.{meets}
use Rattle.list_edit.specs.Edits.{comes_before, is_one, has_key, bars, bars_beside, inserted, removed, changed}
use Rattle.list_edit.specs.Laws.{KeepsRising, KeepsEach, CountsRecords}
use Rattle.list_edit.specs.declared.edits.Edit.TheVariants.{Insert, Remove, Change}
use Rattle.list_edit.specs.declared.fault.ListFault.{ListFault}
use Rattle.list_edit.specs.declared.fault.ListFault.TheVariants.{Missing, Overlap}

-- ---- answers by a test

-- an answer that is Ok only where a test failed, or passed
from_no : {A : Type 0} (b : Bool) (fault : ListFault) (x y : A) → (if b then Err fault else Ok x) ≡ (Ok y) → (b ≡ false) × (x ≡ y)
from_no true fault x y e = cc e
from_no false fault x y e = (refl, cc e)

from_yes : {A : Type 0} (b : Bool) (fault : ListFault) (x y : A) → (if b then Ok x else Err fault) ≡ (Ok y) → (b ≡ true) × (x ≡ y)
from_yes true fault x y e = (refl, cc e)
from_yes false fault x y e = cc e

from_both : {A : Type 0} (b c : Bool) (fault other : ListFault) (x y : A) → (if b then (if c then Err fault else Ok x) else Err other) ≡ (Ok y) → (b ≡ true) × (x ≡ y)
from_both true c fault other x y e = (refl, (from_no c fault x y e).1)
from_both false c fault other x y e = cc e

neither : (a b : Bool) → (a || b) ≡ false → (a ≡ false) × (b ≡ false)
neither true b e = absurd (false≢true (sym e))
neither false b e = (refl, e)

one_first : (a b : Bool) → (not a && not b) ≡ false → (a ≡ true) ⊎ (b ≡ true)
one_first true b e = inl refl
one_first false true e = inr refl
one_first false false e = absurd (false≢true (sym e))

not_first : (a b : Bool) → (not a && not b) ≡ true → (a ≡ false) × (b ≡ false)
not_first true b e = absurd (false≢true e)
not_first false true e = absurd (false≢true e)
not_first false false e = (refl, refl)

module _ {R K : Type 0} (form : Form R K) (r : R) where
  abbrev pub ahead : R → R → Bool
  ahead a b = form.is_before (form.key_of a) (form.key_of b)

  -- ---- as many

  pub count_put : (xs : List R) → length (inserted form r xs) ≡ suc (length xs)
  unfolding inserted
  count_put [] = refl
  count_put (s ∷ ss) = elim (comes_before form r s) as (λ b. length (if b then s ∷ inserted form r ss else r ∷ s ∷ ss) ≡ suc (suc (length ss))) [
    | true ↦ ap suc (count_put ss)
    | false ↦ refl
  ]

  pub count_taken : (xs : List R) → list_any (is_one form r) xs ≡ true → suc (length (removed form r xs)) ≡ length xs
  unfolding removed
  count_taken [] h = absurd (false≢true h)
  count_taken (s ∷ ss) h = (elim (is_one form r s) as (λ b. (b || list_any (is_one form r) ss) ≡ true → suc (length (if b then ss else s ∷ removed form r ss)) ≡ suc (length ss)) [
    | true ↦ λ e. refl
    | false ↦ λ e. ap suc (count_taken ss e)
  ]) h

  pub count_changed : (xs : List R) → length (changed form r xs) ≡ length xs
  unfolding changed
  count_changed [] = refl
  count_changed (s ∷ ss) = elim (has_key form r s) as (λ b. length (if b then r ∷ ss else s ∷ changed form r ss) ≡ suc (length ss)) [
    | true ↦ refl
    | false ↦ ap suc (count_changed ss)
  ]

  -- ---- what holds of each

  module _ (test : R → Bool) where
    pub each_put : (xs : List R) → test r ≡ true → Each test xs → Each test (inserted form r xs)
    unfolding inserted
    each_put [] h all = (h, tt)
    each_put (s ∷ ss) h all = elim (comes_before form r s) as (λ b. Each test (if b then s ∷ inserted form r ss else r ∷ s ∷ ss)) [
      | true ↦ (all.0, each_put ss h all.1)
      | false ↦ (h, all)
    ]

    pub each_taken : (xs : List R) → Each test xs → Each test (removed form r xs)
    unfolding removed
    each_taken [] all = tt
    each_taken (s ∷ ss) all = elim (is_one form r s) as (λ b. Each test (if b then ss else s ∷ removed form r ss)) [
      | true ↦ all.1
      | false ↦ (all.0, each_taken ss all.1)
    ]

    pub each_changed : (xs : List R) → test r ≡ true → Each test xs → Each test (changed form r xs)
    unfolding changed
    each_changed [] h all = tt
    each_changed (s ∷ ss) h all = elim (has_key form r s) as (λ b. Each test (if b then r ∷ ss else s ∷ changed form r ss)) [
      | true ↦ (h, all.1)
      | false ↦ (all.0, each_changed ss h all.1)
    ]

  -- ---- the order

  put_ahead : (a : R) (xs : List R) → ahead a r ≡ true → IsAhead ahead a xs → IsAhead ahead a (inserted form r xs)
  unfolding inserted
  put_ahead a [] h first = h
  put_ahead a (s ∷ ss) h first = elim (comes_before form r s) as (λ b. IsAhead ahead a (if b then s ∷ inserted form r ss else r ∷ s ∷ ss)) [
    | true ↦ first
    | false ↦ h
  ]

  -- a record that doesn't bar another comes before it or behind it
  apart : (s : R) → bars form r s ≡ false → (comes_before form r s ≡ true) ⊎ (ahead r s ≡ true)
  unfolding bars has_key comes_before
  apart s h = one_first (ahead s r) (ahead r s) (neither (meets form s r) (same_key form (form.key_of s) (form.key_of r)) h).1

  pub put_rises : (xs : List R) → Rises ahead xs → list_any (bars form r) xs ≡ false → Rises ahead (inserted form r xs)
  unfolding inserted comes_before
  put_rises [] rises none = (tt, tt)
  put_rises (s ∷ ss) rises none =
      let both = neither (bars form r s) (list_any (bars form r) ss) none in
      (elim (comes_before form r s) as (λ b. comes_before form r s ≡ b → Rises ahead (if b then s ∷ inserted form r ss else r ∷ s ∷ ss)) [
        | true ↦ λ h. (put_ahead s ss h rises.0, put_rises ss rises.1 both.1)
        | false ↦ λ h. elim (apart s both.0) [
          | inl before ↦ absurd (false≢true (sym h ∙ before))
          | inr behind ↦ (behind, rises)
        ]
      ]) refl

  module _ (law : IsLawful form) where
    taken_ahead : (a : R) (xs : List R) → IsAhead ahead a xs → Rises ahead xs → IsAhead ahead a (removed form r xs)
    unfolding removed
    taken_ahead a [] first rises = tt
    taken_ahead a (s ∷ []) first rises = elim (is_one form r s) as (λ b. IsAhead ahead a (if b then [] else s ∷ [])) [
      | true ↦ tt
      | false ↦ first
    ]
    taken_ahead a (s ∷ t ∷ ts) first rises = elim (is_one form r s) as (λ b. IsAhead ahead a (if b then t ∷ ts else s ∷ removed form r (t ∷ ts))) [
      | true ↦ law.along (form.key_of a) (form.key_of s) (form.key_of t) first rises.0
      | false ↦ first
    ]

    pub taken_rises : (xs : List R) → Rises ahead xs → Rises ahead (removed form r xs)
    unfolding removed
    taken_rises [] rises = tt
    taken_rises (s ∷ ss) rises = elim (is_one form r s) as (λ b. Rises ahead (if b then ss else s ∷ removed form r ss)) [
      | true ↦ rises.1
      | false ↦ (taken_ahead s ss rises.0 rises.1, taken_rises ss rises.1)
    ]

    -- what comes before a record comes before one with its key
    before_equal : (a s : R) → has_key form r s ≡ true → ahead a s ≡ true → ahead a r ≡ true
    unfolding has_key
    before_equal a s same h = elim (law.total (form.key_of a) (form.key_of r) (form.key_of s) h) [
      | inl before ↦ before
      | inr behind ↦ absurd (false≢true (sym (not_first (ahead s r) (ahead r s) same).1 ∙ behind))
    ]

    behind_equal : (s : R) (xs : List R) → has_key form r s ≡ true → IsAhead ahead s xs → IsAhead ahead r xs
    unfolding has_key
    behind_equal s [] same first = tt
    behind_equal s (t ∷ ts) same first = elim (law.total (form.key_of s) (form.key_of r) (form.key_of t) first) [
      | inl before ↦ absurd (false≢true (sym (not_first (ahead s r) (ahead r s) same).0 ∙ before))
      | inr behind ↦ behind
    ]

    changed_ahead : (a : R) (xs : List R) → IsAhead ahead a xs → IsAhead ahead a (changed form r xs)
    unfolding changed
    changed_ahead a [] first = tt
    changed_ahead a (s ∷ ss) first = (elim (has_key form r s) as (λ b. has_key form r s ≡ b → IsAhead ahead a (if b then r ∷ ss else s ∷ changed form r ss)) [
      | true ↦ λ same. before_equal a s same first
      | false ↦ λ other. first
    ]) refl

    pub changed_rises : (xs : List R) → Rises ahead xs → Rises ahead (changed form r xs)
    unfolding changed
    changed_rises [] rises = tt
    changed_rises (s ∷ ss) rises = (elim (has_key form r s) as (λ b. has_key form r s ≡ b → Rises ahead (if b then r ∷ ss else s ∷ changed form r ss)) [
      | true ↦ λ same. (behind_equal s ss same rises.0, rises.1)
      | false ↦ λ other. (changed_ahead s ss rises.0, changed_rises ss rises.1)
    ]) refl

-- ---- the three laws

module _ {R K : Type 0} (form : Form R K) where
  pub counts_records : CountsRecords form
  counts_records Insert r old new e =
      let made = from_no (list_any (bars form r) old) Overlap (inserted form r old) new e in
      sym (ap length made.1) ∙ count_put form r old
  counts_records Remove r old new e =
      let made = from_yes (list_any (is_one form r) old) Missing (removed form r old) new e in
      ap (λ (xs : List R). suc (length xs)) (sym made.1) ∙ count_taken form r old made.0
  counts_records Change r old new e =
      let made = from_both (list_any (has_key form r) old) (list_any (bars_beside form r) old) Overlap Missing (changed form r old) new e in
      sym (ap length made.1) ∙ count_changed form r old

  pub keeps_each : KeepsEach form
  keeps_each test Insert r old new h all e =
      let made = from_no (list_any (bars form r) old) Overlap (inserted form r old) new e in
      subst (Each test) made.1 (each_put form r test old (h tt) all)
  keeps_each test Remove r old new h all e =
      let made = from_yes (list_any (is_one form r) old) Missing (removed form r old) new e in
      subst (Each test) made.1 (each_taken form r test old all)
  keeps_each test Change r old new h all e =
      let made = from_both (list_any (has_key form r) old) (list_any (bars_beside form r) old) Overlap Missing (changed form r old) new e in
      subst (Each test) made.1 (each_changed form r test old (h tt) all)

  pub keeps_rising : IsLawful form → KeepsRising form
  keeps_rising law Insert r old new rises e =
      let made = from_no (list_any (bars form r) old) Overlap (inserted form r old) new e in
      subst (IsRising form) made.1 (put_rises form r old rises made.0)
  keeps_rising law Remove r old new rises e =
      let made = from_yes (list_any (is_one form r) old) Missing (removed form r old) new e in
      subst (IsRising form) made.1 (taken_rises form r law old rises)
  keeps_rising law Change r old new rises e =
      let made = from_both (list_any (has_key form r) old) (list_any (bars_beside form r) old) Overlap Missing (changed form r old) new e in
      subst (IsRising form) made.1 (changed_rises form r law old rises)
