-- Records of chunks of which one inode became free, or allocated.
use Rattle.std.proofs.Common.{◌≡◌, ℕ, zero, suc, ◌+◌, ◌-◌, ◌*◌, ◌^◌, ◌<◌, ◌≤◌, ◌==◌, ◌&&◌, Bool, true, false, not, cond, nat_le, nat_lt, List, [], ◌∷◌, map, filter, refl, sym, ap, ap₂, subst, ◌∙◌, inl, inr, arith}
use Rattle.std.specs.Prelude.{sum_by, if◌then◌else◌}
use Rattle.std.proofs.lemmas.Bool.{cases_lt}
use Rattle.std.proofs.lemmas.Bool.Decides.{nat_tests}
use Rattle.std.proofs.lemmas.List.Sums.{sum_by-cons}
use Rattle.ino_recs.specs.declared.chunk.InoRec.{InoRec}
use Rattle.fs_change.specs.Records.{follow_inode, has_inode, put_all, put_chunk, turn_inode, turned}
use Rattle.fs_state.specs.Lists.{numbers}

-- ---- sums over numbers

pub sum_same : (f h : ℕ → ℕ) (a n : ℕ) → ((j : ℕ) → a ≤ j → j < a + n → f j ≡ h j) → sum_by f (numbers a n) ≡ sum_by h (numbers a n)
sum_same f h a zero e = refl
sum_same f h a (suc n) e =
    sum_by-cons f a (numbers (a + 1) n)
    ∙ ap₂ (λ x y. x + y) (e a (omega arith) (omega arith)) (sum_same f h (a + 1) n (λ j l u. e j (omega (arith, l)) (omega (arith, u))))
    ∙ sym (sum_by-cons h a (numbers (a + 1) n))

no_other : (j k : ℕ) → j < k → (j == k) ≡ false
no_other j k l = grind (arith, nat_tests)

no_earlier : (j k : ℕ) → k < j → (j == k) ≡ false
no_earlier j k l = grind (arith, nat_tests)

-- one of them is greater
sum_one : (f h : ℕ → ℕ) (a n k d : ℕ) → a ≤ k → k < a + n → f k ≡ h k + d → ((j : ℕ) → (j == k) ≡ false → a ≤ j → j < a + n → f j ≡ h j) → sum_by f (numbers a n) ≡ sum_by h (numbers a n) + d
sum_one f h a zero k d l u here e = absurd (omega (arith, l, u))
sum_one f h a (suc n) k d l u here e =
    let left = sum_by-cons f a (numbers (a + 1) n) in
    let right = sum_by-cons h a (numbers (a + 1) n) in
    elim (cases_lt a k) [
      | inl before ↦
          let one : f a ≡ h a = e a (no_other a k before) (omega arith) (omega arith) in
          let rest = sum_one f h (a + 1) n k d (omega (arith, before)) (omega (arith, u)) here (λ j o x y. e j o (omega (arith, x)) (omega (arith, y))) in
          omega (arith, left, right, one, rest)
      | inr now ↦
          let same : k ≡ a = omega (arith, l, now) in
          let one : f a ≡ h a + d = subst (λ m. f m ≡ h m + d) same here in
          let rest = sum_same f h (a + 1) n (λ j x y. e j (no_earlier j k (omega (arith, same, x))) (omega (arith, x)) (omega (arith, y))) in
          omega (arith, left, right, one, rest)
    ]

-- ---- one record

-- what n inodes of a unit say, by their numbers in the group
abbrev pub over : ℕ → (ℕ → Bool) → (ℕ → ℕ) → ℕ → ℕ
over n free f u = sum_by (λ j. if free (64 * u + j) then f j else 0) (numbers 0 n)

abbrev pub rec_of : ℕ → (ℕ → Bool) → ℕ → InoRec
rec_of n free u = record { startino = 64 * u; holemask = 0; count = 64; freecount = over n free (λ j. 1) u; free = over n free (λ j. 2 ^ j) u }

-- inode i became free, or allocated, and no other of the unit did
pub record IsTurned (to_free : Bool) (i : ℕ) (f h : ℕ → Bool) (u : ℕ) : Type 0 where
  pub others : (j : ℕ) → j < 64 → (64 * u + j == i) ≡ false → h (64 * u + j) ≡ f (64 * u + j)
  pub before : (j : ℕ) → j < 64 → 64 * u + j ≡ i → f (64 * u + j) ≡ not to_free
  pub behind : (j : ℕ) → j < 64 → 64 * u + j ≡ i → h (64 * u + j) ≡ to_free

outside : (u i j : ℕ) → (nat_le (64 * u) i && nat_lt i (64 * u + 64)) ≡ false → j < 64 → (64 * u + j == i) ≡ false
outside u i j h l = grind (arith, nat_tests)

inside : (u i : ℕ) → (nat_le (64 * u) i && nat_lt i (64 * u + 64)) ≡ true → (64 * u ≤ i) × (i < 64 * u + 64)
inside u i h = (grind (arith, nat_tests), grind (arith, nat_tests))

apart : (u i j k : ℕ) → 64 * u + k ≡ i → (j == k) ≡ false → (64 * u + j == i) ≡ false
apart u i j k e h = grind (arith, nat_tests)

is_less : (x y d : ℕ) → x ≡ y + d → x - d ≡ y
is_less x y d e = omega (arith, e)

-- ---- records in order

-- units rise, from one on
abbrev pub Rise : ℕ → List ℕ → Type 0
Rise from [] = Unit {0}
Rise from (u ∷ us) = (from ≤ u) × Rise (u + 1) us

abbrev pub Above : ℕ → List InoRec → Type 0
Above lo [] = Unit {0}
Above lo (r ∷ rs) = (lo < r.startino) × Above lo rs

pub above_filter : (lo : ℕ) (p : InoRec → Bool) (rs : List InoRec) → Above lo rs → Above lo (filter p rs)
above_filter lo p [] a = tt
above_filter lo p (r ∷ rs) a = elim (p r) as (λ b. Above lo (cond b (r ∷ filter p rs) (filter p rs))) [
  | true ↦ (a.0, above_filter lo p rs a.1)
  | false ↦ above_filter lo p rs a.1
]

not_ahead : (x y : ℕ) → x < y → nat_lt y x ≡ false
not_ahead x y l = grind (arith, nat_tests)

pub is_ahead : (x y : ℕ) → x < y → nat_lt x y ≡ true
is_ahead x y l = grind (arith, nat_tests)

-- a record in front of all others, and one that is put behind the first
pub put_front : (x : InoRec) (ys : List InoRec) → Above x.startino ys → put_chunk x ys ≡ x ∷ ys
put_front x [] a = refl
put_front x (y ∷ ys) a = ap (λ b. if b then y ∷ put_chunk x ys else x ∷ y ∷ ys) (not_ahead x.startino y.startino a.0)

pub put_over : (r : InoRec) (xs ys : List InoRec) → Above r.startino xs → put_all put_chunk xs (r ∷ ys) ≡ r ∷ put_all put_chunk xs ys
put_over r [] ys a = refl
put_over r (x ∷ xs) ys a =
    ap (put_chunk x) (put_over r xs ys a.1)
    ∙ ap (λ b. if b then r ∷ put_chunk x (put_all put_chunk xs ys) else x ∷ r ∷ put_all put_chunk xs ys) (is_ahead r.startino x.startino a.0)

pub above_all : (n lo from : ℕ) (k : ℕ → Bool) (us : List ℕ) → Rise from us → lo < 64 * from → Above lo (map (rec_of n k) us)
above_all n lo from k [] r l = tt
above_all n lo from k (u ∷ us) r l = let m : lo < 64 * u = omega (arith, l, r.0) in (m, above_all n lo (u + 1) k us r.1 (omega (arith, m)))

-- ---- what one inode changes

module _ (n : ℕ) (few : n ≡ 64) (to_free : Bool) (i : ℕ) (f h : ℕ → Bool) where
  below : (j : ℕ) → j < 0 + n → j < 64
  below j l = omega (arith, l, few)

  stays : (u : ℕ) → IsTurned to_free i f h u → (nat_le (64 * u) i && nat_lt i (64 * u + 64)) ≡ false → rec_of n f u ≡ rec_of n h u
  stays u t out =
      let each : (v : ℕ → ℕ) → over n f v u ≡ over n h v u = λ v. sum_same _ _ 0 n (λ j l k. ap (λ b. if b then v j else 0) (sym (t.others j (below j k) (outside u i j out (below j k))))) in
      λ p. record { startino = 64 * u; holemask = 0; count = 64; freecount = each (λ j. 1) p; free = each (λ j. 2 ^ j) p }

  module _ (u : ℕ) (t : IsTurned to_free i f h u) (in_it : (nat_le (64 * u) i && nat_lt i (64 * u + 64)) ≡ true) where
    abbrev slot : ℕ
    slot = i - 64 * u

    its_place : 64 * u + slot ≡ i
    its_place = let l = (inside u i in_it).0 in omega (arith, l)

    low_slot : slot < 64
    low_slot = let l = (inside u i in_it).1 in let k = (inside u i in_it).0 in omega (arith, l, k)

    others_stay : (v : ℕ → ℕ) (j : ℕ) → (j == slot) ≡ false → 0 ≤ j → j < 0 + n → (if h (64 * u + j) then v j else 0) ≡ (if f (64 * u + j) then v j else 0)
    others_stay v j o l k = ap (λ b. if b then v j else 0) (t.others j (below j k) (apart u i j slot its_place o))

    low : slot < 0 + n
    low = omega (arith, low_slot, few)

    one : (d : ℕ) → d ≡ 0 + d
    one d = omega arith

    pub gained : to_free ≡ true → (v : ℕ → ℕ) → over n h v u ≡ over n f v u + v slot
    gained e v = sum_one (λ j. if h (64 * u + j) then v j else 0) (λ j. if f (64 * u + j) then v j else 0) 0 n slot (v slot) (omega arith) low
        (ap (λ b. if b then v slot else 0) (t.behind slot low_slot its_place ∙ e) ∙ one (v slot) ∙ ap (λ b. (if b then v slot else 0) + v slot) (sym (t.before slot low_slot its_place ∙ ap not e)))
        (others_stay v)

    pub lost : to_free ≡ false → (v : ℕ → ℕ) → over n f v u ≡ over n h v u + v slot
    lost e v = sum_one (λ j. if f (64 * u + j) then v j else 0) (λ j. if h (64 * u + j) then v j else 0) 0 n slot (v slot) (omega arith) low
        (ap (λ b. if b then v slot else 0) (t.before slot low_slot its_place ∙ ap not e) ∙ one (v slot) ∙ ap (λ b. (if b then v slot else 0) + v slot) (sym (t.behind slot low_slot its_place ∙ e)))
        (λ j o l k. sym (others_stay v j o l k))

    by_turn : (b : Bool) → to_free ≡ b → turned b i (rec_of n f u) ≡ rec_of n h u
    by_turn true e = λ p. record { startino = 64 * u; holemask = 0; count = 64; freecount = sym (gained e (λ j. 1)) p; free = sym (gained e (λ j. 2 ^ j)) p }
    by_turn false e =
        let each : (v : ℕ → ℕ) → over n f v u - v slot ≡ over n h v u = λ v. is_less (over n f v u) (over n h v u) (v slot) (lost e v) in
        λ p. record { startino = 64 * u; holemask = 0; count = 64; freecount = each (λ j. 1) p; free = each (λ j. 2 ^ j) p }

  abbrev pub turn_in : InoRec → InoRec
  turn_in r = if has_inode i r then turned to_free i r else r

  pub turns : (u : ℕ) → IsTurned to_free i f h u → turn_in (rec_of n f u) ≡ rec_of n h u
  turns u t = by (nat_le (64 * u) i && nat_lt i (64 * u + 64)) refl
    where
      by : (b : Bool) → (nat_le (64 * u) i && nat_lt i (64 * u + 64)) ≡ b → (if b then turned to_free i (rec_of n f u) else rec_of n f u) ≡ rec_of n h u
      by true e = by_turn u t e to_free refl
      by false e = stays u t e

  -- ---- all records

  abbrev pub AreTurned : List ℕ → Type 0
  AreTurned [] = Unit {0}
  AreTurned (u ∷ us) = IsTurned to_free i f h u × AreTurned us

  pub turn_all : (us : List ℕ) → AreTurned us → turn_inode to_free i (map (rec_of n f) us) ≡ map (rec_of n h) us
  unfolding turn_inode
  turn_all [] t = refl
  turn_all (u ∷ us) t = ap₂ (λ (r : InoRec) (rs : List InoRec). r ∷ rs) (turns u t.0) (turn_all us t.1)

  -- ---- those with a free inode

  abbrev pub listed : (ℕ → Bool) → List ℕ → List InoRec
  listed k us = filter (λ r. nat_lt 0 r.freecount) (map (rec_of n k) us)

  abbrev mine : InoRec → Bool
  mine r = has_inode i r && nat_lt 0 r.freecount

  abbrev another : InoRec → Bool
  another r = not (has_inode i r)

  beyond : (u from : ℕ) → i < 64 * from → from ≤ u → (nat_le (64 * u) i && nat_lt i (64 * u + 64)) ≡ false
  beyond u from l k = grind (arith, nat_tests)

  -- behind the inode's unit nothing changes
  none_mine : (from : ℕ) (us : List ℕ) → Rise from us → i < 64 * from → filter mine (map (rec_of n h) us) ≡ []
  none_mine from [] r l = refl
  none_mine from (u ∷ us) r l =
      ap (λ b. if b && nat_lt 0 (rec_of n h u).freecount then rec_of n h u ∷ filter mine (map (rec_of n h) us) else filter mine (map (rec_of n h) us)) (beyond u from l r.0)
      ∙ none_mine (u + 1) us r.1 (omega (arith, l, r.0))

  all_others : (from : ℕ) (us : List ℕ) → Rise from us → AreTurned us → i < 64 * from → filter another (listed f us) ≡ listed h us
  all_others from [] r t l = refl
  all_others from (u ∷ us) r t l =
      let out = beyond u from l r.0 in
      let same : rec_of n f u ≡ rec_of n h u = stays u t.0 out in
      by (nat_lt 0 (rec_of n f u).freecount) refl out (all_others (u + 1) us r.1 t.1 (omega (arith, l, r.0)))
      ∙ ap (λ (x : InoRec). if nat_lt 0 x.freecount then x ∷ listed h us else listed h us) same
    where
      by : (b : Bool) → nat_lt 0 (rec_of n f u).freecount ≡ b → (nat_le (64 * u) i && nat_lt i (64 * u + 64)) ≡ false → filter another (listed f us) ≡ listed h us → filter another (if b then rec_of n f u ∷ listed f us else listed f us) ≡ (if b then rec_of n f u ∷ listed h us else listed h us)
      by true e out rest =
          ap (λ c. if not c then rec_of n f u ∷ filter another (listed f us) else filter another (listed f us)) out
          ∙ ap (λ (xs : List InoRec). rec_of n f u ∷ xs) rest
      by false e out rest = rest

  follow_rest : (from : ℕ) (us : List ℕ) → Rise from us → AreTurned us → put_all put_chunk (filter mine (map (rec_of n h) us)) (filter another (listed f us)) ≡ listed h us
  follow_rest from [] r t = refl
  follow_rest from (u ∷ us) r t = by_unit (nat_le (64 * u) i && nat_lt i (64 * u + 64)) refl (follow_rest (u + 1) us r.1 t.1)
    where
      in_unit : (b c : Bool) → (nat_le (64 * u) i && nat_lt i (64 * u + 64)) ≡ true → filter another (if c then rec_of n f u ∷ listed f us else listed f us) ≡ listed h us
      in_unit b true e =
          ap (λ k. if not k then rec_of n f u ∷ filter another (listed f us) else filter another (listed f us)) e
          ∙ all_others (u + 1) us r.1 t.1 (let l = (inside u i e).1 in omega (arith, l))
      in_unit b false e = all_others (u + 1) us r.1 t.1 (let l = (inside u i e).1 in omega (arith, l))

      put_own : (b : Bool) → put_all put_chunk (if b then rec_of n h u ∷ [] else []) (listed h us) ≡ (if b then rec_of n h u ∷ listed h us else listed h us)
      put_own true = put_front (rec_of n h u) (listed h us) (above_filter (64 * u) (λ r. nat_lt 0 r.freecount) (map (rec_of n h) us) (above_all n (64 * u) (u + 1) h us r.1 (omega arith)))
      put_own false = refl

      over_it : (c : Bool) → (nat_le (64 * u) i && nat_lt i (64 * u + 64)) ≡ false → put_all put_chunk (filter mine (map (rec_of n h) us)) (filter another (listed f us)) ≡ listed h us
          → put_all put_chunk (filter mine (map (rec_of n h) us)) (filter another (if c then rec_of n f u ∷ listed f us else listed f us)) ≡ (if c then rec_of n f u ∷ listed h us else listed h us)
      over_it true e rest =
          ap (λ k. put_all put_chunk (filter mine (map (rec_of n h) us)) (if not k then rec_of n f u ∷ filter another (listed f us) else filter another (listed f us))) e
          ∙ put_over (rec_of n f u) (filter mine (map (rec_of n h) us)) (filter another (listed f us)) (above_filter (64 * u) mine (map (rec_of n h) us) (above_all n (64 * u) (u + 1) h us r.1 (omega arith)))
          ∙ ap (λ (xs : List InoRec). rec_of n f u ∷ xs) rest
      over_it false e rest = rest

      by_unit : (b : Bool) → (nat_le (64 * u) i && nat_lt i (64 * u + 64)) ≡ b → put_all put_chunk (filter mine (map (rec_of n h) us)) (filter another (listed f us)) ≡ listed h us
          → put_all put_chunk (if b && nat_lt 0 (rec_of n h u).freecount then rec_of n h u ∷ filter mine (map (rec_of n h) us) else filter mine (map (rec_of n h) us)) (filter another (listed f (u ∷ us))) ≡ listed h (u ∷ us)
      by_unit true e rest =
          ap₂ (λ (xs ys : List InoRec). put_all put_chunk xs ys)
          (ap (λ (xs : List InoRec). if nat_lt 0 (rec_of n h u).freecount then rec_of n h u ∷ xs else xs) (none_mine (u + 1) us r.1 (let l = (inside u i e).1 in omega (arith, l))))
          (in_unit true (nat_lt 0 (rec_of n f u).freecount) e)
          ∙ put_own (nat_lt 0 (rec_of n h u).freecount)
      by_unit false e rest =
          over_it (nat_lt 0 (rec_of n f u).freecount) e rest
          ∙ ap (λ (x : InoRec). if nat_lt 0 x.freecount then x ∷ listed h us else listed h us) (stays u t.0 e)

  pub follows : (us : List ℕ) → Rise 0 us → AreTurned us → follow_inode i (map (rec_of n h) us) (listed f us) ≡ listed h us
  unfolding follow_inode
  follows us r t = follow_rest 0 us r t
