-- Prefixes of a journal, positions in it, and the entries at them.
use Rattle.std.specs.Prelude.{ℕ, List, [], ◌∷◌, ◌++◌, ◌≡◌, ◌<◌, ◌+◌, length, map, zero, suc}
use mathlib.Core.Option.{Option, none, some}
use lib.ListN.{get_elem?}
use native.Mathlib.Decide.{dec_le}

-- xs is a prefix of ys
abbrev pub Begins : {E : Type 0} → List E → List E → Type 0
Begins {E} xs ys = (rest : List E) × (xs ++ rest ≡ ys)

-- f of each, added up
abbrev pub total : {A : Type 0} → (A → ℕ) → List A → ℕ
total f [] = 0
total f (x ∷ xs) = f x + total f xs

-- the n numbers from a up
abbrev pub from_up : ℕ → ℕ → List ℕ
from_up a zero = []
from_up a (suc n) = a ∷ from_up (suc a) n

-- p is one of the positions
abbrev pub Owns : List ℕ → ℕ → Type 0
Owns ps p = (m : ℕ) × (get_elem? ps m ≡ some p)

-- no position is in both lists
abbrev pub Apart : List ℕ → List ℕ → Type 0
Apart ps qs = (p : ℕ) → Owns ps p → Owns qs p → ⊥

-- each position is below n
abbrev pub Below : List ℕ → ℕ → Type 0
Below ps n = (p : ℕ) → Owns ps p → p < n

-- no position comes twice
abbrev pub Distinct : List ℕ → Type 0
Distinct ps = (i j p : ℕ) → get_elem? ps i ≡ some p → get_elem? ps j ≡ some p → i ≡ j

abbrev pub entry_of : {E : Type 0} → Option E → List E
entry_of none = []
entry_of (some e) = e ∷ []

-- the entries of the journal at these positions, in their order
abbrev pub entries_at : {E : Type 0} → List E → List ℕ → List E
entries_at log [] = []
entries_at log (p ∷ ps) = entry_of (get_elem? log p) ++ entries_at log ps

-- k is what is kept for the actor a
abbrev pub Has : {K : Type 0} → List (ℕ × K) → ℕ → K → Type 0
Has xs a k = (m : ℕ) × (get_elem? xs m ≡ some (a, k))

-- the actors for whom something is kept
abbrev pub actors_of : {K : Type 0} → List (ℕ × K) → List ℕ
actors_of xs = map (λ p. p.0) xs

abbrev pub skip_if : {A P : Type 0} → Dec P → A → List A → List A
skip_if (yes h) x xs = xs
skip_if (no h) x xs = x ∷ xs

abbrev pub keep_if : {A P : Type 0} → Dec P → A → List A → List A
keep_if (yes h) x xs = x ∷ xs
keep_if (no h) x xs = xs

-- what is kept for the actors below n
abbrev pub below : {K : Type 0} → ℕ → List (ℕ × K) → List (ℕ × K)
below n [] = []
below n (p ∷ xs) = skip_if (dec_le n p.0) p (below n xs)

-- what is kept for the actors from n up
abbrev pub above : {K : Type 0} → ℕ → List (ℕ × K) → List (ℕ × K)
above n [] = []
above n (p ∷ xs) = keep_if (dec_le n p.0) p (above n xs)

abbrev pub second_if : {A P : Type 0} → Dec P → A → A → A
second_if (yes h) x y = y
second_if (no h) x y = x

-- the longer of two prefixes, and the other
abbrev pub longer : {E : Type 0} → List E → List E → List E
longer xs ys = second_if (dec_le (length xs) (length ys)) xs ys

abbrev pub shorter : {E : Type 0} → List E → List E → List E
shorter xs ys = second_if (dec_le (length xs) (length ys)) ys xs
