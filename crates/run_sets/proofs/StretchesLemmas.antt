-- The maximal runs of blocks with equal numbers, found so far.
use Rattle.std.proofs.Common.{◌≡◌, ℕ, zero, suc, ◌+◌, ◌-◌, ◌<◌, ◌≤◌, Bool, true, false, cond, eqb, ◌&&◌, List, [], ◌∷◌, ◌++◌, refl, ap, subst, sym, ◌∙◌, arith, append_assoc, inl, inr}
use Rattle.std.specs.Prelude.{nat_le}
use Rattle.std.proofs.lemmas.Bool.{eq-eqb, ne_eqb, cases_eq, cases_lt, le-leb, lt-leb}
use Rattle.std.proofs.lemmas.List.{append-nil}
use Rattle.run_sets.specs.declared.run.Run.{Run}
use Rattle.run_sets.specs.Stretches.{with_front, stretches_from, stretches, StaysApart}

-- ---- where the stretches from a block on begin

-- the first begins there or later, and there only with the block's number
abbrev Begins : (ℕ → ℕ) → ℕ → List (Run × ℕ) → Type 0
Begins f a [] = Unit {0}
Begins f a (s ∷ ss) = (a ≤ s.0.start) × (s.0.start ≡ a → s.1 ≡ f a)

begins_later : (f : ℕ → ℕ) (a : ℕ) (ss : List (Run × ℕ)) → Begins f (a + 1) ss → Begins f a ss
begins_later f a [] h = tt
begins_later f a (s ∷ ss) h = (omega (arith, h.0), λ is. absurd (omega (arith, h.0, is)))

front_begins : (f : ℕ → ℕ) (a : ℕ) (ss : List (Run × ℕ)) → Begins f a (with_front a (f a) ss)
front_begins f a [] = (omega arith, λ is. refl)
front_begins f a (s ∷ ss) = either (eqb s.0.start (a + 1) && eqb s.1 (f a))
  where
    either : (t : Bool) → Begins f a (cond t ((record { start = a; count = s.0.count + 1 }, f a) ∷ ss) ((record { start = a; count = 1 }, f a) ∷ s ∷ ss))
    either true = (omega arith, λ is. refl)
    either false = (omega arith, λ is. refl)

begins : (f : ℕ → ℕ) (least a n : ℕ) → Begins f a (stretches_from f least a n)
begins f least a zero = tt
begins f least a (suc n) = either (nat_le least (f a)) (begins f least (a + 1) n)
  where
    either : (t : Bool) → Begins f (a + 1) (stretches_from f least (a + 1) n) → Begins f a (cond t (with_front a (f a) (stretches_from f least (a + 1) n)) (stretches_from f least (a + 1) n))
    either true h = front_begins f a (stretches_from f least (a + 1) n)
    either false h = begins_later f a (stretches_from f least (a + 1) n) h

-- a stretch with the number v that ends at c stays apart from those behind it
apart_if : (f : ℕ → ℕ) (c v : ℕ) (ss : List (Run × ℕ)) → Begins f c ss → (f c ≡ v → ⊥) → StaysApart c v ss
apart_if f c v [] h ne = tt
apart_if f c v (s ∷ ss) h ne = λ start value. ne (sym (h.1 start) ∙ value)

pub stays_apart : (f : ℕ → ℕ) (least c n v : ℕ) → (f c ≡ v → ⊥) → StaysApart c v (stretches_from f least c n)
stays_apart f least c n v ne = apart_if f c v (stretches_from f least c n) (begins f least c n) ne

front_apart : (a v : ℕ) (ss : List (Run × ℕ)) → StaysApart (a + 1) v ss → with_front a v ss ≡ (record { start = a; count = 1 }, v) ∷ ss
front_apart a v [] h = refl
front_apart a v (s ∷ ss) h = elim (cases_eq s.0.start (a + 1)) [
  | inl is ↦
      let here : eqb s.0.start (a + 1) ≡ true = eq-eqb s.0.start (a + 1) is in
      let other : eqb s.1 v ≡ false = ne_eqb s.1 v (h is) in
      rw (here, other) refl
  | inr ne ↦ let here : eqb s.0.start (a + 1) ≡ false = ne_eqb s.0.start (a + 1) ne in rw here refl
]

-- ---- blocks with one number, and blocks whose number is too small

stretch : (f : ℕ → ℕ) (least a k n m c v : ℕ) → m ≡ suc k + n → c ≡ a + suc k → ((b : ℕ) → a ≤ b → b < c → f b ≡ v) → least ≤ v → StaysApart c v (stretches_from f least c n)
    → stretches_from f least a m ≡ (record { start = a; count = suc k }, v) ∷ stretches_from f least c n
stretch f least a k n zero c v em ec equal enough ends = absurd (omega (arith, em))
stretch f least a zero n (suc m) c v em ec equal enough ends =
    let here : f a ≡ v = equal a (omega arith) (omega (arith, ec)) in
    let test : nat_le least v ≡ true = le-leb least v enough in
    let next : c ≡ a + 1 = omega (arith, ec) in
    let rest : stretches_from f least (a + 1) m ≡ stretches_from f least c n = ap (λ (x : ℕ). stretches_from f least x m) (sym next) ∙ ap (λ (x : ℕ). stretches_from f least c x) (omega (arith, em)) in
    let apart : StaysApart (a + 1) v (stretches_from f least c n) = subst (λ (x : ℕ). StaysApart x v (stretches_from f least c n)) next ends in
    rw (here, test, rest) (front_apart a v (stretches_from f least c n) apart)
stretch f least a (suc k) n (suc m) c v em ec equal enough ends =
    let here : f a ≡ v = equal a (omega arith) (omega (arith, ec)) in
    let test : nat_le least v ≡ true = le-leb least v enough in
    let rest : stretches_from f least (a + 1) m ≡ (record { start = a + 1; count = suc k }, v) ∷ stretches_from f least c n
    = stretch f least (a + 1) k n m c v (omega (arith, em)) (omega (arith, ec)) (λ b low high. equal b (omega (arith, low)) high) enough ends in
    let joins : eqb (a + 1) (a + 1) ≡ true = eq-eqb (a + 1) (a + 1) refl in
    let same : eqb v v ≡ true = eq-eqb v v refl in
    let count : suc k + 1 ≡ suc (suc k) = omega arith in
    rw (here, test, rest, joins, same, count) refl

skipped : (f : ℕ → ℕ) (least a n m c : ℕ) → m + a ≡ c + n → a ≤ c → ((b : ℕ) → a ≤ b → b < c → f b < least) → stretches_from f least a m ≡ stretches_from f least c n
skipped f least a n zero c e le small = let none : n ≡ 0 = omega (arith, e, le) in rw none refl
skipped f least a n (suc m) c e le small = elim (cases_eq a c) [
  | inl is ↦ let count : suc m ≡ n = omega (arith, e, is) in ap (λ (x : ℕ). stretches_from f least a x) count ∙ ap (λ (x : ℕ). stretches_from f least x n) is
  | inr ne ↦ let here : nat_le least (f a) ≡ false = lt-leb least (f a) (small a (omega arith) (omega (arith, le, ne))) in
      rw here (skipped f least (a + 1) n m c (omega (arith, e)) (omega (arith, le, ne)) (λ b low high. small b (omega (arith, low)) high))
]

after_stretch : (f : ℕ → ℕ) (least a c len v : ℕ) → a < c → c ≤ len → ((b : ℕ) → a ≤ b → b < c → f b ≡ v) → least ≤ v → StaysApart c v (stretches_from f least c (len - c))
    → stretches_from f least a (len - a) ≡ (record { start = a; count = c - a }, v) ∷ stretches_from f least c (len - c)
after_stretch f least a c len v lt le equal enough ends =
    let count : suc (c - a - 1) ≡ c - a = omega (arith, lt) in
    subst (λ (k : ℕ). stretches_from f least a (len - a) ≡ (record { start = a; count = k }, v) ∷ stretches_from f least c (len - c)) count
    (stretch f least a (c - a - 1) (len - c) (len - a) c v (omega (arith, lt, le)) (omega (arith, lt)) equal enough ends)

after_skip : (f : ℕ → ℕ) (least a c len : ℕ) → a ≤ c → c ≤ len → ((b : ℕ) → a ≤ b → b < c → f b < least) → stretches_from f least a (len - a) ≡ stretches_from f least c (len - c)
after_skip f least a c len le le' small = skipped f least a (len - c) (len - a) c (omega (arith, le, le')) le small

-- ---- the turns of the sweep

appended : (old new rest all found : List (Run × ℕ)) (s : Run × ℕ) → found ≡ s ∷ rest → old ++ found ≡ all → new ≡ old ++ s ∷ [] → new ++ rest ≡ all
appended old new rest all found s next so_far more =
    rw more (append_assoc old (s ∷ []) rest ∙ (ap (λ (ss : List (Run × ℕ)). old ++ ss) (sym next) ∙ so_far))

-- the number changes: a stretch is found
pub turn_found : (f : ℕ → ℕ) (least start at len v : ℕ) (old new all : List (Run × ℕ)) → start < at → at ≤ len → ((b : ℕ) → start ≤ b → b < at → f b ≡ v) → least ≤ v → (f at ≡ v → ⊥)
    → old ++ stretches_from f least start (len - start) ≡ all → new ≡ old ++ (record { start = start; count = at - start }, v) ∷ []
    → new ++ stretches_from f least at (len - at) ≡ all
turn_found f least start at len v old new all lt within equal enough ne so_far more =
    let found = after_stretch f least start at len v lt within equal enough (stays_apart f least at (len - at) v ne) in
    appended old new (stretches_from f least at (len - at)) all (stretches_from f least start (len - start)) (record { start = start; count = at - start }, v) found so_far more

-- the number was too small
pub turn_small : (f : ℕ → ℕ) (least start at len v : ℕ) (old all : List (Run × ℕ)) → start ≤ at → at ≤ len → ((b : ℕ) → start ≤ b → b < at → f b ≡ v) → v < least
    → old ++ stretches_from f least start (len - start) ≡ all → old ++ stretches_from f least at (len - at) ≡ all
turn_small f least start at len v old all le within equal small so_far =
    let rest = after_skip f least start at len le within (λ b low high. let is = equal b low high in omega (arith, is, small)) in
    ap (λ (ss : List (Run × ℕ)). old ++ ss) (sym rest) ∙ so_far

-- the number stays
pub turn_on : (f : ℕ → ℕ) (start at next v : ℕ) → ((b : ℕ) → start ≤ b → b < at → f b ≡ v) → ((b : ℕ) → at ≤ b → b < next → f b ≡ v) → (b : ℕ) → start ≤ b → b < next → f b ≡ v
turn_on f start at next v front back b low high = elim (cases_lt b at) [
  | inl lt ↦ front b low lt
  | inr ge ↦ back b ge high
]

pub at_start : (f : ℕ → ℕ) (least len : ℕ) (old : List (Run × ℕ)) → old ≡ [] → old ++ stretches_from f least 0 (len - 0) ≡ stretches f least len
unfolding stretches
at_start f least len old none = let whole : len - 0 ≡ len = omega arith in rw (none, whole) refl

none_left : (f : ℕ → ℕ) (least len : ℕ) → stretches_from f least len (len - len) ≡ []
none_left f least len = let none : len - len ≡ 0 = omega arith in rw none refl

pub last_found : (f : ℕ → ℕ) (least start len v : ℕ) (old new all : List (Run × ℕ)) → start < len → ((b : ℕ) → start ≤ b → b < len → f b ≡ v) → least ≤ v
    → old ++ stretches_from f least start (len - start) ≡ all → new ≡ old ++ (record { start = start; count = len - start }, v) ∷ [] → new ≡ all
last_found f least start len v old new all lt equal enough so_far more =
    let over = none_left f least len in
    let found = after_stretch f least start len len v lt (omega arith) equal enough (rw over tt) in
    let next : stretches_from f least start (len - start) ≡ (record { start = start; count = len - start }, v) ∷ [] = found ∙ ap (λ (ss : List (Run × ℕ)). (record { start = start; count = len - start }, v) ∷ ss) over in
    sym (append-nil new) ∙ appended old new [] all (stretches_from f least start (len - start)) (record { start = start; count = len - start }, v) next so_far more

pub last_small : (f : ℕ → ℕ) (least start len v : ℕ) (old all : List (Run × ℕ)) → start ≤ len → ((b : ℕ) → start ≤ b → b < len → f b ≡ v) → v < least
    → old ++ stretches_from f least start (len - start) ≡ all → old ≡ all
last_small f least start len v old all le equal small so_far =
    sym (append-nil old) ∙ (ap (λ (ss : List (Run × ℕ)). old ++ ss) (sym (none_left f least len)) ∙ turn_small f least start len len v old all le (omega arith) equal small so_far)

-- ---- equal numbers have equal stretches

same_from : (f g : ℕ → ℕ) (least a n : ℕ) → ((b : ℕ) → f b ≡ g b) → stretches_from f least a n ≡ stretches_from g least a n
same_from f g least a zero same = refl
same_from f g least a (suc n) same = let here = same a in let rest = same_from f g least (a + 1) n same in rw (here, rest) refl

pub stretches_same : (f g : ℕ → ℕ) (least length : ℕ) → ((b : ℕ) → f b ≡ g b) → stretches f least length ≡ stretches g least length
unfolding stretches
stretches_same f g least length same = same_from f g least 0 length same
