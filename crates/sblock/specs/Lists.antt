-- Items counted off, and lists that rise.
use Rattle.std.specs.Prelude.{◌≡◌, ⊤, ℕ, zero, suc, ◌+◌, Bool, true, List, [], ◌∷◌}

-- n items, from number i on
abbrev pub items_from : {A : Type 0} → (ℕ → A) → ℕ → ℕ → List A
items_from item zero i = []
items_from item (suc n) i = item i ∷ items_from item n (i + 1)

-- it comes before the first of these
abbrev pub IsAhead : {A : Type 0} → (A → A → Bool) → A → List A → Type 0
IsAhead before a [] = ⊤
IsAhead before a (b ∷ bs) = before a b ≡ true

-- each comes before the next one
abbrev pub Rises : {A : Type 0} → (A → A → Bool) → List A → Type 0
Rises before [] = ⊤
Rises before (a ∷ rest) = IsAhead before a rest × Rises before rest

abbrev pub Each : {A : Type 0} → (A → Bool) → List A → Type 0
Each test [] = ⊤
Each test (a ∷ rest) = (test a ≡ true) × Each test rest
