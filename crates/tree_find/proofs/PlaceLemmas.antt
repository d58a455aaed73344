-- How far a key reaches among keys that rise.
use Rattle.std.proofs.Common.{◌≡◌, ℕ, zero, suc, ◌+◌, ◌-◌, ◌<◌, ◌≤◌, Bool, true, false, List, refl, sym, ◌∙◌, inl, inr, arith}
use Rattle.std.proofs.lemmas.Bool.{cases_lt, false≢true}
use Rattle.byte_fields.proofs.BelowLemmas.{each_below}
use Rattle.sblock.specs.Blocks.{key_in, rises_at, is_rising}
use Rattle.sblock.specs.Form.{Form, IsLawful}
use Rattle.tree_find.proofs.Facts.{is_either, passes, fails}
use Rattle.tree_find.specs.Places.{behind_last, is_reached, place_behind}

-- where the numbers that pass are a front, it is their number
pub front_is : (test : ℕ → Bool) (n i : ℕ) → i ≤ n → ((k : ℕ) → k < i → test k ≡ true) → ((k : ℕ) → i ≤ k → k < n → test k ≡ false) → behind_last test n ≡ i
unfolding behind_last
front_is test zero i le below above = omega arith
front_is test (suc n) i le below above =
    elim (cases_lt n i) [
      | inl lt ↦ let e : suc n ≡ i = omega arith in let t = below n lt in rw t e
      | inr ge ↦ let f = above n ge (omega arith) in rw f (front_is test n i ge below (λ k lo hi. above k lo (omega arith)))
    ]

module _ {R K : Type 0} (form : Form R K) (law : IsLawful form) (leaf : Bool) (area : List ℕ) (n : ℕ) (rising : is_rising form leaf area n ≡ true) where
  next_rises : (k : ℕ) → k + 1 < n → form.is_before (key_in form leaf area k) (key_in form leaf area (k + 1)) ≡ true
  unfolding is_rising rises_at
  next_rises k lt = each_below (rises_at form leaf area) (n - 1) k rising (omega arith)

  pub far_rises : (i j : ℕ) → i < j → j < n → form.is_before (key_in form leaf area i) (key_in form leaf area j) ≡ true
  far_rises i zero lt hi = absurd (omega arith)
  far_rises i (suc j) lt hi =
      let one : j + 1 ≡ suc j = omega arith in
      let next = rw one at (next_rises j (omega arith)) in
      elim (cases_lt i j) [
        | inl low ↦ law.along (key_in form leaf area i) (key_in form leaf area j) (key_in form leaf area (suc j)) (far_rises i j low (omega arith)) next
        | inr high ↦ let e : i ≡ j = omega arith in rw e next
      ]

  -- what is reached, and what isn't, goes on
  pub reached_below : (key : K) (middle : ℕ) → middle < n → is_reached form key leaf area middle ≡ true → (k : ℕ) → k ≤ middle → is_reached form key leaf area k ≡ true
  unfolding is_reached
  reached_below key middle lt h k le =
      elim (cases_lt k middle) [
        | inl low ↦ elim (is_either (form.is_before key (key_in form leaf area k))) [
          | inl t ↦ absurd (false≢true (sym (fails (form.is_before key (key_in form leaf area middle)) h) ∙ law.along key (key_in form leaf area k) (key_in form leaf area middle) t (far_rises k middle low lt)))
          | inr f ↦ rw f refl
        ]
        | inr high ↦ let e : k ≡ middle = omega arith in rw e h
      ]

  pub unreached_above : (key : K) (middle : ℕ) → is_reached form key leaf area middle ≡ false → (k : ℕ) → middle ≤ k → k < n → is_reached form key leaf area k ≡ false
  unfolding is_reached
  unreached_above key middle h k le lt =
      elim (cases_lt middle k) [
        | inl low ↦ let t = law.along key (key_in form leaf area middle) (key_in form leaf area k) (passes (form.is_before key (key_in form leaf area middle)) h) (far_rises middle k low lt) in rw t refl
        | inr high ↦ let e : k ≡ middle = omega arith in rw e h
      ]

  pub place_is : (key : K) (i : ℕ) → i ≤ n → ((k : ℕ) → k < i → is_reached form key leaf area k ≡ true) → ((k : ℕ) → i ≤ k → k < n → is_reached form key leaf area k ≡ false) → place_behind form key leaf area n ≡ i
  unfolding place_behind
  place_is key i le below above = front_is (is_reached form key leaf area) n i le below above

-- none from the place on passes, and the one in front of it does
pub placed_above : (test : ℕ → Bool) (n k : ℕ) → behind_last test n ≤ k → k < n → test k ≡ false
unfolding behind_last
placed_above test zero k le lt = absurd (omega arith)
placed_above test (suc n) k le lt =
    elim (is_either (test n)) [
      | inl t ↦ let far : suc n ≤ k = rw t at le in absurd (omega arith)
      | inr f ↦ (let low : behind_last test n ≤ k = rw f at le in
          elim (cases_lt k n) [
            | inl below ↦ placed_above test n k low below
            | inr above ↦ let e : k ≡ n = omega arith in rw e f
          ])
    ]

pub placed_at : (test : ℕ → Bool) (n i : ℕ) → behind_last test n ≡ suc i → (test i ≡ true) × (i < n)
unfolding behind_last
placed_at test zero i e = absurd (omega arith)
placed_at test (suc n) i e =
    elim (is_either (test n)) [
      | inl t ↦ let same : suc n ≡ suc i = rw t at e in let one : i ≡ n = omega arith in (rw one t, omega arith)
      | inr f ↦ let rest = placed_at test n i (rw f at e) in (rest.0, omega (arith, rest.1))
    ]
