-- Prefixes, positions in a journal, and the entries at them.
use Rattle.std.proofs.Common.{◌≡◌, ℕ, ◌+◌, ◌-◌, ◌≤◌, ◌<◌, zero, suc, List, [], ◌∷◌, ◌++◌, refl, sym, ap, ◌∙◌, subst, inl, inr, arith, length, append_assoc, zero-add, lt_of_not-le}
use Rattle.std.specs.Prelude.{◌⊎◌}
use Rattle.std.proofs.lemmas.List.{append-nil, length-append}
use native.Mathlib.Decide.{dec_le}
use mathlib.Core.Option.{some, some-injective, some-ne-none}
use lib.ListN.{get_elem?}
use Rattle.turn_lock.specs.Lists.{Begins, from_up, Owns, Apart, Below, Distinct, entry_of, entries_at, second_if, longer, shorter}
use Rattle.turn_lock.proofs.Sets.{begins_same, begins_trans, within}

module _ {E : Type 0} where
  pub begins_length : (xs ys : List E) → Begins xs ys → length xs ≤ length ys
  begins_length xs ys b = let e : length (xs ++ b.0) ≡ length xs + length b.0 = length-append xs b.0 in let f : length (xs ++ b.0) ≡ length ys = ap (λ l. length l) b.1 in omega (arith, e, f)

  no_rest : (xs r : List E) → length (xs ++ r) ≤ length xs → xs ++ r ≡ xs
  no_rest xs [] le = append-nil xs
  no_rest xs (e ∷ r) le = let l : length (xs ++ e ∷ r) ≡ length xs + length (e ∷ r) = length-append xs (e ∷ r) in absurd (omega (arith, l, le))

  same_head : (x y : E) (xs ys : List E) → x ∷ xs ≡ y ∷ ys → x ≡ y
  same_head x y xs ys e = cc

  same_rest : (x y : E) (xs ys : List E) → x ∷ xs ≡ y ∷ ys → xs ≡ ys
  same_rest x y xs ys e = cc

  -- of two prefixes of one list the one that isn't longer begins the other
  pub begins_nested : (xs ys zs : List E) → Begins xs zs → Begins ys zs → length xs ≤ length ys → Begins xs ys
  begins_nested [] ys zs a b le = (ys, refl)
  begins_nested (x ∷ xs) [] zs a b le = absurd (omega (arith, le))
  begins_nested (x ∷ xs) (y ∷ ys) [] a b le = let e : length (x ∷ xs ++ a.0) ≡ 0 = ap (λ l. length l) a.1 in absurd (omega (arith, e))
  begins_nested (x ∷ xs) (y ∷ ys) (z ∷ zs) a b le =
      let h = begins_nested xs ys zs (a.0, same_rest x z (xs ++ a.0) zs a.1) (b.0, same_rest y z (ys ++ b.0) zs b.1) (omega (arith, le)) in
      let e : x ≡ y = same_head x z (xs ++ a.0) zs a.1 ∙ sym (same_head y z (ys ++ b.0) zs b.1) in
      (h.0, ap (λ l. x ∷ l) h.1 ∙ ap (λ w. w ∷ ys) e)

  -- a prefix that isn't shorter is the whole
  pub begins_whole : (xs ys : List E) → Begins xs ys → length ys ≤ length xs → xs ≡ ys
  begins_whole xs ys b le = sym (no_rest xs b.0 (subst (λ l. length l ≤ length xs) (sym b.1) le)) ∙ b.1

  get_append : (xs r : List E) (p : ℕ) → p < length xs → get_elem? (xs ++ r) p ≡ get_elem? xs p
  get_append [] r p lt = absurd (omega (arith, lt))
  get_append (x ∷ xs) r zero lt = refl
  get_append (x ∷ xs) r (suc p) lt = get_append xs r p (omega (arith, lt))

  entries_more : (xs r : List E) (ps : List ℕ) → Below ps (length xs) → entries_at (xs ++ r) ps ≡ entries_at xs ps
  entries_more xs r [] b = refl
  entries_more xs r (p ∷ ps) b =
      let h = entries_more xs r ps (λ q o. b q (suc o.0, o.1)) in
      ap (λ o. entry_of o ++ entries_at (xs ++ r) ps) (get_append xs r p (b p (0, refl))) ∙ ap (λ l. entry_of (get_elem? xs p) ++ l) h

  -- entries stay where they are as the journal is extended
  pub entries_stay : (xs ys : List E) (ps : List ℕ) → Begins xs ys → Below ps (length xs) → entries_at ys ps ≡ entries_at xs ps
  entries_stay xs ys ps b w = ap (λ l. entries_at l ps) (sym b.1) ∙ entries_more xs b.0 ps w

  pub entries_append : (log : List E) (ps qs : List ℕ) → entries_at log (ps ++ qs) ≡ entries_at log ps ++ entries_at log qs
  entries_append log [] qs = refl
  entries_append log (p ∷ ps) qs = ap (λ l. entry_of (get_elem? log p) ++ l) (entries_append log ps qs) ∙ sym (append_assoc (entry_of (get_elem? log p)) (entries_at log ps) (entries_at log qs))

  get_at_end : (xs : List E) (e : E) (r : List E) → get_elem? (xs ++ e ∷ r) (length xs) ≡ some e
  get_at_end [] e r = refl
  get_at_end (x ∷ xs) e r = get_at_end xs e r

  entries_rest : (xs r : List E) → entries_at (xs ++ r) (from_up (length xs) (length r)) ≡ r
  entries_rest xs [] = refl
  entries_rest xs (e ∷ r) =
      let whole : (xs ++ e ∷ []) ++ r ≡ xs ++ e ∷ r = append_assoc xs (e ∷ []) r in
      let n : length (xs ++ e ∷ []) ≡ suc (length xs) = let l : length (xs ++ e ∷ []) ≡ length xs + 1 = length-append xs (e ∷ []) in omega (arith, l) in
      let later : entries_at (xs ++ e ∷ r) (from_up (suc (length xs)) (length r)) ≡ r =
      subst (λ l. entries_at l (from_up (suc (length xs)) (length r)) ≡ r) whole (subst (λ k. entries_at ((xs ++ e ∷ []) ++ r) (from_up k (length r)) ≡ r) n (entries_rest (xs ++ e ∷ []) r)) in
      ap (λ o. entry_of o ++ entries_at (xs ++ e ∷ r) (from_up (suc (length xs)) (length r))) (get_at_end xs e r) ∙ ap (λ l. e ∷ l) later

  pub grown_by : (xs ys : List E) → (b : Begins xs ys) → length ys - length xs ≡ length b.0
  grown_by xs ys b = let e : length (xs ++ b.0) ≡ length xs + length b.0 = length-append xs b.0 in let f : length (xs ++ b.0) ≡ length ys = ap (λ l. length l) b.1 in omega (arith, e, f)

  -- the entries of a pass after a turn are those before, and what the turn appended
  pub entries_turned : (seen jx jy : List E) (own : List ℕ) → Begins seen jx → Below own (length seen) → (l : Begins jx jy)
      → entries_at jy (own ++ from_up (length jx) (length jy - length jx)) ≡ entries_at seen own ++ l.0
  entries_turned seen jx jy own s w l =
      let new : List ℕ = from_up (length jx) (length jy - length jx) in
      let first : entries_at jy own ≡ entries_at seen own = entries_stay seen jy own (begins_trans seen jx jy s l) w in
      let second : entries_at jy new ≡ l.0 = ap (λ n. entries_at jy (from_up (length jx) n)) (grown_by jx jy l) ∙ (ap (λ j. entries_at j (from_up (length jx) (length l.0))) (sym l.1) ∙ entries_rest jx l.0) in
      entries_append jy own new ∙ (ap (λ z. z ++ entries_at jy new) first ∙ ap (λ z. entries_at seen own ++ z) second)

  -- of the longer and the shorter of two prefixes
  module _ (xs ys zs : List E) (a : Begins xs zs) (b : Begins ys zs) where
    nested_by : (d : Dec (length xs ≤ length ys)) → Begins (second_if d ys xs) (second_if d xs ys)
    nested_by (yes h) = begins_nested xs ys zs a b h
    nested_by (no h) = begins_nested ys xs zs b a (let l = lt_of_not-le h in omega (arith, l))

    pub nested : Begins (shorter xs ys) (longer xs ys)
    nested = nested_by (dec_le (length xs) (length ys))

    longer_by : (d : Dec (length xs ≤ length ys)) → Begins (second_if d xs ys) zs
    longer_by (yes h) = b
    longer_by (no h) = a

    pub longer_begins : Begins (longer xs ys) zs
    longer_begins = longer_by (dec_le (length xs) (length ys))

  both_by : (xs ys : List E) (d : Dec (length xs ≤ length ys)) → Begins (second_if d ys xs) (second_if d xs ys) → Begins xs (second_if d xs ys) × Begins ys (second_if d xs ys)
  both_by xs ys (yes h) g = (g, begins_same ys)
  both_by xs ys (no h) g = (begins_same xs, g)

  -- where the shorter begins the longer, both begin the longer
  pub both_begin : (xs ys : List E) → Begins (shorter xs ys) (longer xs ys) → Begins xs (longer xs ys) × Begins ys (longer xs ys)
  both_begin xs ys = both_by xs ys (dec_le (length xs) (length ys))

  least_by : (xs ys : List E) (d : Dec (length xs ≤ length ys)) → (length xs ≤ length (second_if d xs ys)) × (length ys ≤ length (second_if d xs ys))
  least_by xs ys (yes h) = (h, omega arith)
  least_by xs ys (no h) = (omega arith, let l = lt_of_not-le h in omega (arith, l))

  pub longer_length : (xs ys : List E) → (length xs ≤ length (longer xs ys)) × (length ys ≤ length (longer xs ys))
  longer_length xs ys = least_by xs ys (dec_le (length xs) (length ys))

  -- two passes' entries in the journal that both have seen
  pub entries_joined : (xs ys : List E) (ps qs : List ℕ) → Begins (shorter xs ys) (longer xs ys) → Below ps (length xs) → Below qs (length ys)
      → entries_at (longer xs ys) (ps ++ qs) ≡ entries_at xs ps ++ entries_at ys qs
  entries_joined xs ys ps qs g a b =
      let zs : List E = longer xs ys in
      let h = both_begin xs ys g in
      entries_append zs ps qs ∙ (ap (λ z. z ++ entries_at zs qs) (entries_stay xs zs ps h.0 a) ∙ ap (λ z. entries_at xs ps ++ z) (entries_stay ys zs qs h.1 b))

from_up_at : (a n i p : ℕ) → get_elem? (from_up a n) i ≡ some p → (p ≡ a + i) × (i < n)
from_up_at a zero i p e = absurd (some-ne-none p (sym e))
from_up_at a (suc n) zero p e = let f = some-injective a p e in (omega (arith, f), omega arith)
from_up_at a (suc n) (suc i) p e = let h = from_up_at (suc a) n i p e in let h0 = h.0 in let h1 = h.1 in (omega (arith, h0), omega (arith, h1))

pub from_up_range : (a n p : ℕ) → Owns (from_up a n) p → (a ≤ p) × (p < a + n)
from_up_range a n p o = let h = from_up_at a n o.0 p o.1 in let h0 = h.0 in let h1 = h.1 in (omega (arith, h0), omega (arith, h0, h1))

from_up_distinct : (a n : ℕ) → Distinct (from_up a n)
from_up_distinct a n i j p x y = let e = (from_up_at a n i p x).0 in let f = (from_up_at a n j p y).0 in omega (arith, e, f)

append_at : (ps qs : List ℕ) (i p : ℕ) → get_elem? (ps ++ qs) i ≡ some p → (get_elem? ps i ≡ some p) ⊎ ((k : ℕ) × (i ≡ length ps + k) × (get_elem? qs k ≡ some p))
append_at [] qs i p e = inr (i, omega arith, e)
append_at (q ∷ ps) qs zero p e = inl e
append_at (q ∷ ps) qs (suc i) p e = elim (append_at ps qs i p e) [
  | inl h ↦ inl h
  | inr h ↦ inr (h.0, (let z = h.1 in omega (arith, z)), h.2)
]

append_right : (ps qs : List ℕ) (j k : ℕ) → j ≡ length ps + k → get_elem? (ps ++ qs) j ≡ get_elem? qs k
append_right [] qs j k e = ap (λ n. get_elem? qs n) (e ∙ zero-add k)
append_right (q ∷ ps) qs zero k e = absurd (omega (arith, e))
append_right (q ∷ ps) qs (suc j) k e = append_right ps qs j k (omega (arith, e))

append_left : (ps qs : List ℕ) (i p : ℕ) → get_elem? ps i ≡ some p → get_elem? (ps ++ qs) i ≡ some p
append_left [] qs i p e = absurd (some-ne-none p (sym e))
append_left (q ∷ ps) qs zero p e = e
append_left (q ∷ ps) qs (suc i) p e = append_left ps qs i p e

pub owns_append : (ps qs : List ℕ) (p : ℕ) → Owns (ps ++ qs) p → Owns ps p ⊎ Owns qs p
owns_append ps qs p o = elim (append_at ps qs o.0 p o.1) [
  | inl e ↦ inl (o.0, e)
  | inr e ↦ inr (e.0, e.2)
]

pub distinct_append : (ps qs : List ℕ) → Distinct ps → Distinct qs → Apart ps qs → Distinct (ps ++ qs)
distinct_append ps qs a b apart i j p x y = elim (append_at ps qs i p x) [
  | inl e ↦ elim (append_at ps qs j p y) [
    | inl f ↦ a i j p e f
    | inr f ↦ absurd (apart p (i, e) (f.0, f.2))
  ]
  | inr e ↦ elim (append_at ps qs j p y) [
    | inl f ↦ absurd (apart p (j, f) (e.0, e.2))
    | inr f ↦ let k = b e.0 f.0 p e.2 f.2 in let e1 = e.1 in let f1 = f.1 in omega (arith, k, e1, f1)
  ]
]

-- two parts of a list in which no position comes twice are apart
pub distinct_apart : (ps qs : List ℕ) → Distinct (ps ++ qs) → Apart ps qs
distinct_apart ps qs d p a b =
    let e : a.0 ≡ length ps + b.0 = d a.0 (length ps + b.0) p (append_left ps qs a.0 p a.1) (append_right ps qs (length ps + b.0) b.0 refl ∙ b.1) in
    let l = within ps a.0 p a.1 in
    absurd (omega (arith, e, l))

pub below_weaken : (ps : List ℕ) (m n : ℕ) → m ≤ n → Below ps m → Below ps n
below_weaken ps m n le b p o = let h = b p o in omega (arith, h, le)

pub below_append : (ps qs : List ℕ) (n : ℕ) → Below ps n → Below qs n → Below (ps ++ qs) n
below_append ps qs n a b p o = elim (owns_append ps qs p o) [
  | inl h ↦ a p h
  | inr h ↦ b p h
]

-- the positions from the old length up are none of those below it
pub new_apart : (ps : List ℕ) (m n : ℕ) → Below ps m → Apart ps (from_up m n)
new_apart ps m n b p a c = let l = b p a in let h = (from_up_range m n p c).0 in omega (arith, l, h)

pub distinct_new : (ps : List ℕ) (m n : ℕ) → Distinct ps → Below ps m → Distinct (ps ++ from_up m n)
distinct_new ps m n d b = distinct_append ps (from_up m n) d (from_up_distinct m n) (new_apart ps m n b)

pub below_new : (ps : List ℕ) (m k : ℕ) → m ≤ k → Below ps m → Below (ps ++ from_up m (k - m)) k
below_new ps m k le b = below_append ps (from_up m (k - m)) k (below_weaken ps m k le b) (λ p o. let h = (from_up_range m (k - m) p o).1 in omega (arith, h, le))
