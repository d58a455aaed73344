-- The record of a leaf with an equal key.
use Rattle.std.proofs.Common.{◌≡◌, ℕ, zero, suc, ◌+◌, ◌<◌, ◌≤◌, Bool, true, false, List, [], ◌∷◌, Option, Some, None, refl, sym, ◌∙◌, inl, inr, arith}
use Rattle.std.specs.Prelude.{find, IfSome}
use Rattle.std.proofs.lemmas.Bool.{cases_lt, false≢true}
use Rattle.sblock.specs.Area.{area_of}
use Rattle.sblock.specs.Blocks.{key_in, is_rising, numrecs, records_of, AllInside, AllSupported}
use Rattle.sblock.specs.Form.{Form, IsLawful, same_key}
use Rattle.sblock.specs.Lists.{items_from, Each}
use Rattle.sblock.specs.declared.block.Bounds.{Bounds}
use Rattle.tree_find.specs.Find.{record_with}
use Rattle.tree_find.specs.Laws.{IsFound}
use Rattle.tree_find.specs.Places.{is_reached, place_behind}
use Rattle.tree_find.proofs.Facts.{is_either, passes, fails, same_some}
use Rattle.tree_find.proofs.PlaceLemmas.{placed_above, placed_at, far_rises}

none_in : {A : Type 0} (test : A → Bool) (item : ℕ → A) (n i : ℕ) → ((k : ℕ) → i ≤ k → k < i + n → test (item k) ≡ false) → find test (items_from item n i) ≡ None
none_in test item zero i none = refl
none_in test item (suc n) i none =
    let f = none i (omega arith) (omega arith) in
    rw f (none_in test item n (i + 1) (λ k lo hi. none k (omega arith) (omega arith)))

first_in : {A : Type 0} (test : A → Bool) (item : ℕ → A) (n i j : ℕ) → i ≤ j → j < i + n → ((k : ℕ) → i ≤ k → k < j → test (item k) ≡ false) → test (item j) ≡ true → find test (items_from item n i) ≡ Some (item j)
first_in test item zero i j le lt none here = absurd (omega arith)
first_in test item (suc n) i j le lt none here =
    elim (cases_lt i j) [
      | inl low ↦ let f = none i (omega arith) low in rw f (first_in test item n (i + 1) j (omega arith) (omega arith) (λ k lo hi. none k (omega arith) hi) here)
      | inr high ↦ let e : j ≡ i = omega arith in let t : test (item i) ≡ true = rw e at here in rw (t, e) refl
    ]

module _ {R K : Type 0} (form : Form R K) (law : IsLawful form) where
  -- a key that comes before or after another isn't equal to it
  pub later_differs : (a b : K) → form.is_before b a ≡ true → same_key form a b ≡ false
  later_differs a b t = elim (is_either (form.is_before a b)) [ inl u ↦ rw u refl | inr u ↦ rw (u, t) refl ]

  pub sooner_differs : (a b : K) → form.is_before a b ≡ true → same_key form a b ≡ false
  sooner_differs a b t = rw t refl

  pub both_equal : (a b : K) → form.is_before a b ≡ false → form.is_before b a ≡ false → same_key form a b ≡ true
  both_equal a b t u = rw (t, u) refl

  -- what comes before a key, comes before each that isn't before it
  pub before_all : (a b key : K) → form.is_before a b ≡ true → form.is_before key b ≡ false → form.is_before a key ≡ true
  before_all a b key t f = elim (law.total a key b t) [ inl u ↦ u | inr u ↦ absurd (false≢true (sym f ∙ u)) ]

  module _ (bytes : List ℕ) (rising : is_rising form true (area_of bytes) (numrecs bytes) ≡ true) (key : K) (place : ℕ) (placed : place ≡ place_behind form key true (area_of bytes) (numrecs bytes)) where
    abbrev at : ℕ → K
    at k = form.key_of (form.record_at (area_of bytes) k)

    above : (k : ℕ) → place ≤ k → k < numrecs bytes → same_key form (at k) key ≡ false
    unfolding place_behind is_reached key_in
    above k le lt =
        let u = placed_above (is_reached form key true (area_of bytes)) (numrecs bytes) k (rw placed at le) lt in
        later_differs (at k) key (passes (form.is_before key (at k)) u)

    here : (i : ℕ) → place ≡ suc i → (form.is_before key (at i) ≡ false) × (i < numrecs bytes)
    unfolding place_behind is_reached key_in
    here i e =
        let p = placed_at (is_reached form key true (area_of bytes)) (numrecs bytes) i (sym placed ∙ e) in
        (fails (form.is_before key (at i)) p.0, p.1)

    pub no_place : place ≡ 0 → record_with form key (records_of form bytes) ≡ None
    unfolding records_of
    no_place z = none_in (λ r. same_key form (form.key_of r) key) (form.record_at (area_of bytes)) (numrecs bytes) 0 (λ k lo hi. above k (omega (arith, z)) (omega (arith, hi)))

    rises_to : (k i : ℕ) → k < i → i < numrecs bytes → form.is_before (at k) (at i) ≡ true
    unfolding key_in
    rises_to k i lt hi = far_rises form law true (area_of bytes) (numrecs bytes) rising k i lt hi

    -- the record in front of the place comes before the key
    pub another : (i : ℕ) → place ≡ suc i → form.is_before (at i) key ≡ true → record_with form key (records_of form bytes) ≡ None
    unfolding records_of
    another i e t =
        let h = here i e in
        none_in (λ r. same_key form (form.key_of r) key) (form.record_at (area_of bytes)) (numrecs bytes) 0
        (λ k lo hi. elim (cases_lt k i) [
          | inl low ↦ sooner_differs (at k) key (law.along (at k) (at i) key (rises_to k i low h.1) t)
          | inr high ↦ elim (cases_lt i k) [
            | inl up ↦ above k (omega (arith, e, up)) (omega (arith, hi))
            | inr same ↦ let one : k ≡ i = omega arith in rw one (sooner_differs (at i) key t)
          ]
        ])

    -- or is equal to it
    pub found : (i : ℕ) → place ≡ suc i → form.is_before (at i) key ≡ false → record_with form key (records_of form bytes) ≡ Some (form.record_at (area_of bytes) i)
    unfolding records_of
    found i e f =
        let h = here i e in
        first_in (λ r. same_key form (form.key_of r) key) (form.record_at (area_of bytes)) (numrecs bytes) 0 i (omega arith) (omega (arith, h.1))
        (λ k lo hi. sooner_differs (at k) key (before_all (at k) (at i) key (rises_to k i hi h.1) h.0))
        (both_equal (at i) key f h.0)

is_one : {A : Type 0} (test other : A → Bool) (xs : List A) (x : A) → Each other xs → find test xs ≡ Some x → (test x ≡ true) × (other x ≡ true)
is_one test other [] x all h = cc
is_one test other (y ∷ ys) x all h =
    elim (is_either (test y)) [
      | inl t ↦ let e : y ≡ x = same_some (rw t at h) in (rw (← e) t, rw (← e) (all.0))
      | inr f ↦ is_one test other ys x all.1 (rw f at h)
    ]

-- the record that is found in a leaf has an equal key, and is as the leaf's tests say
pub sound_record : {R K : Type 0} (form : Form R K) (bounds : Bounds) (key : K) (bytes : List ℕ) (o : Option R) → AllInside form bounds (records_of form bytes) → AllSupported form (records_of form bytes) → o ≡ record_with form key (records_of form bytes) → IfSome o (λ rec. IsFound form bounds key rec)
sound_record form bounds key bytes None inside supported h = tt
sound_record form bounds key bytes (Some r) inside supported h =
    let a = is_one (λ r. same_key form (form.key_of r) key) (form.is_in_range bounds) (records_of form bytes) r inside (sym h) in
    let b = is_one (λ r. same_key form (form.key_of r) key) form.is_supported (records_of form bytes) r supported (sym h) in
    record { equal = a.0; inside = a.1; supported = b.1 }
