-- The records of a leaf above a key are those from its place on.
use Rattle.std.proofs.Common.{◌≡◌, ℕ, zero, suc, ◌+◌, ◌-◌, ◌<◌, ◌≤◌, Bool, true, false, List, [], ◌∷◌, ◌++◌, Option, Some, None, refl, sym, subst, ◌∙◌, ap, inl, inr, arith, append_assoc}
use Rattle.std.specs.Prelude.{filter}
use Rattle.std.proofs.lemmas.Bool.{cases_lt}
use Rattle.std.proofs.lemmas.List.{append-nil}
use Rattle.sblock.specs.Area.{area_of}
use Rattle.sblock.specs.Blocks.{numrecs, key_in, is_rising, records_of, IsRising}
use Rattle.sblock.proofs.BlockLemmas.{records_rise}
use Rattle.sblock.specs.Form.{Form, IsLawful}
use Rattle.sblock.specs.Lists.{items_from, Each}
use Rattle.tree_defs.specs.Claims.{lone_fault}
use Rattle.sblock.specs.Headers.{left_of}
use Rattle.tree_defs.specs.Tree.{want_of}
use Rattle.tree_defs.specs.declared.site.Site.{Site}
use Rattle.tree_defs.proofs.LoneFacts.{leaf_inside, leaf_supported}
use Rattle.tree_find.specs.Next.{is_above, records_above, place_above, AreAbove}
use Rattle.tree_find.specs.Places.{behind_last, is_reached, place_behind}
use Rattle.tree_find.proofs.OpenLemmas.{leaf_rising}
use Rattle.tree_find.proofs.Parting.{rising_rest}
use Rattle.tree_find.proofs.Facts.{is_either, passes, fails}
use Rattle.tree_find.proofs.PlaceLemmas.{placed_above, placed_at, reached_below}

filter_each : {A : Type 0} (test : A → Bool) (item : ℕ → A) (n i : ℕ) → ((k : ℕ) → i ≤ k → k < i + n → test (item k) ≡ true) → filter test (items_from item n i) ≡ items_from item n i
filter_each test item zero i all = refl
filter_each test item (suc n) i all =
    let t = all i (omega arith) (omega arith) in
    rw t (ap (λ rest. item i ∷ rest) (filter_each test item n (i + 1) (λ k a b. all k (omega arith) (omega arith))))

filter_from : {A : Type 0} (test : A → Bool) (item : ℕ → A) (n i j : ℕ) → i ≤ j → j ≤ i + n → ((k : ℕ) → k < j → test (item k) ≡ false) → ((k : ℕ) → j ≤ k → k < i + n → test (item k) ≡ true) → filter test (items_from item n i) ≡ items_from item (i + n - j) j
filter_from test item zero i j lo hi none all = let e : i + 0 - j ≡ 0 = omega arith in rw e refl
filter_from test item (suc n) i j lo hi none all =
    elim (cases_lt i j) [
      | inl low ↦ (let e : i + suc n - j ≡ i + 1 + n - j = omega arith in
          let f = none i low in
          rw (f, e) (filter_from test item n (i + 1) j (omega arith) (omega arith) none (λ k a b. all k a (omega arith))))
      | inr high ↦ (let same : j ≡ i = omega arith in
          let e : i + suc n - i ≡ suc n = omega arith in
          rw (same, e) (filter_each test item (suc n) i (λ k a b. all k (omega arith) b)))
    ]

module _ {R K : Type 0} (form : Form R K) (law : IsLawful form) (bytes : List ℕ) (rising : is_rising form true (area_of bytes) (numrecs bytes) ≡ true) where
  below_place : (key : K) (place : ℕ) → place_behind form key true (area_of bytes) (numrecs bytes) ≡ place → (k : ℕ) → k < place → form.is_before key (form.key_of (form.record_at (area_of bytes) k)) ≡ false
  unfolding place_behind is_reached key_in
  below_place key zero e k lt = absurd (omega arith)
  below_place key (suc i) e k lt =
      let a = placed_at (is_reached form key true (area_of bytes)) (numrecs bytes) i e in
      fails (form.is_before key (form.key_of (form.record_at (area_of bytes) k))) (reached_below form law true (area_of bytes) (numrecs bytes) rising key i a.1 a.0 k (omega arith))

  pub from_place : (key : K) (k : ℕ) → place_behind form key true (area_of bytes) (numrecs bytes) ≤ k → k < numrecs bytes → form.is_before key (form.key_of (form.record_at (area_of bytes) k)) ≡ true
  unfolding place_behind is_reached key_in
  from_place key k le lt = passes (form.is_before key (form.key_of (form.record_at (area_of bytes) k))) (placed_above (is_reached form key true (area_of bytes)) (numrecs bytes) k le lt)

  pub above_from : (after : Option K) (place : ℕ) → place ≡ place_above form after true (area_of bytes) (numrecs bytes) → place ≤ numrecs bytes → records_above form after (records_of form bytes) ≡ items_from (form.record_at (area_of bytes)) (numrecs bytes - place) place
  unfolding records_of
  above_from None place e le =
      let n : numrecs bytes - place ≡ numrecs bytes = omega arith in
      rw (n, e) (filter_each (is_above form None) (form.record_at (area_of bytes)) (numrecs bytes) 0 (λ k a b. refl))
  above_from (Some key) place e le =
      let n : numrecs bytes - place ≡ 0 + numrecs bytes - place = omega arith in
      rw n (filter_from (is_above form (Some key)) (form.record_at (area_of bytes)) (numrecs bytes) 0 place (omega arith) (omega arith) (λ k lt. below_place key place (sym e) k lt) (λ k a b. from_place key k (rw e at a) (omega (arith, b))))

-- one record is taken
pub take_one : {A : Type 0} (item : ℕ → A) (taken more whole : List A) (r : A) (n i : ℕ) → taken ++ items_from item (n - i) i ≡ whole → i < n → r ≡ item i → more ≡ taken ++ r ∷ [] → more ++ items_from item (n - (i + 1)) (i + 1) ≡ whole
take_one item taken more whole r n i h lt e m =
    let c : n - i ≡ suc (n - (i + 1)) = omega arith in
    rw (m, e) (append_assoc taken (item i ∷ []) (items_from item (n - (i + 1)) (i + 1)) ∙ (rw c at h))

pub all_taken : {A : Type 0} (item : ℕ → A) (taken whole : List A) (n i : ℕ) → taken ++ items_from item (n - i) i ≡ whole → n ≤ i → taken ≡ whole
all_taken item taken whole n i h le =
    let c : n - i ≡ 0 = omega arith in
    sym (append-nil taken) ∙ (rw c at h)

pub behind_within : (test : ℕ → Bool) (n : ℕ) → behind_last test n ≤ n
unfolding behind_last
behind_within test zero = omega arith
behind_within test (suc n) =
    let le = behind_within test n in
    elim (is_either (test n)) [
      | inl t ↦ rw t (omega arith)
      | inr f ↦ rw f (omega arith)
    ]

items_parts : {A : Type 0} (item : ℕ → A) (n i j : ℕ) → j ≤ n → items_from item n i ≡ items_from item j i ++ items_from item (n - j) (i + j)
items_parts item n i zero le = let a : n - 0 ≡ n = omega arith in let b : i + 0 ≡ i = omega arith in rw (a, b) refl
items_parts item zero i (suc j) le = absurd (omega arith)
items_parts item (suc n) i (suc j) le =
    let a : suc n - suc j ≡ n - j = omega arith in
    let b : i + 1 + j ≡ i + suc j = omega arith in
    rw a (ap (λ rest. item i ∷ rest) (rw b at (items_parts item n (i + 1) j (omega arith))))

each_kept : {A : Type 0} (test other : A → Bool) (xs : List A) → Each other xs → Each other (filter test xs)
each_kept test other [] all = tt
each_kept test other (x ∷ xs) all =
    elim (is_either (test x)) [
      | inl t ↦ rw t (all.0, each_kept test other xs all.1)
      | inr f ↦ rw f (each_kept test other xs all.1)
    ]

each_passes : {A : Type 0} (test : A → Bool) (xs : List A) → Each test (filter test xs)
each_passes test [] = tt
each_passes test (x ∷ xs) =
    elim (is_either (test x)) [
      | inl t ↦ rw t (t, each_passes test xs)
      | inr f ↦ rw f (each_passes test xs)
    ]

module _ {R K : Type 0} (form : Form R K) (law : IsLawful form) where
  pub place_within : (after : Option K) (bytes : List ℕ) → place_above form after true (area_of bytes) (numrecs bytes) ≤ numrecs bytes
  unfolding place_behind
  place_within None bytes = omega arith
  place_within (Some key) bytes = behind_within (is_reached form key true (area_of bytes)) (numrecs bytes)

  above_rises : (after : Option K) (bytes : List ℕ) → is_rising form true (area_of bytes) (numrecs bytes) ≡ true → IsRising form (records_of form bytes) → IsRising form (records_above form after (records_of form bytes))
  unfolding records_of
  above_rises after bytes rising rises =
      let item = form.record_at (area_of bytes) in
      let place = place_above form after true (area_of bytes) (numrecs bytes) in
      let within : place ≤ numrecs bytes = place_within after bytes in
      let zero_place : 0 + place ≡ place = omega arith in
      let parts : items_from (form.record_at (area_of bytes)) (numrecs bytes) 0 ≡ items_from (form.record_at (area_of bytes)) place 0 ++ items_from (form.record_at (area_of bytes)) (numrecs bytes - place) place = rw zero_place at (items_parts item (numrecs bytes) 0 place within) in
      let P : List R → Type 0 = λ v. IsRising form v in
      let both : IsRising form (items_from item place 0 ++ items_from item (numrecs bytes - place) place) = subst P parts rises in
      subst P (sym (above_from form law bytes rising after place refl within)) (rising_rest form law (items_from item place 0) (items_from item (numrecs bytes - place) place) both)

  -- what is taken of a leaf that passes is as its tests say
  pub sound_above : (site : Site) (level : ℕ) (root : Bool) (p : ℕ) (bytes : List ℕ) → lone_fault form site level root p bytes ≡ None → level ≡ 0 → (after : Option K) (recs : List R) → recs ≡ records_above form after (records_of form bytes) → AreAbove form site.bounds after recs
  unfolding lone_fault
  sound_above site level root p bytes pass z after recs e = rw e (record {
    rising = above_rises after bytes (leaf_rising form site level root p bytes pass z) (records_rise form bytes (want_of form.kind site level root (left_of bytes) p) pass z);
    above = each_passes (is_above form after) (records_of form bytes);
    inside = each_kept (is_above form after) (form.is_in_range site.bounds) (records_of form bytes) (leaf_inside form site level root p bytes pass z);
    supported = each_kept (is_above form after) form.is_supported (records_of form bytes) (leaf_supported form site level root p bytes pass z);
  })
