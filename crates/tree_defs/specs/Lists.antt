-- Numbers in lists.
use Rattle.std.specs.Prelude.{◌≡◌, ◌⊎◌, ℕ, ◌+◌, ◌≤◌, ◌==◌, ◌||◌, Bool, true, false, if◌then◌else◌, List, [], ◌∷◌, ◌++◌}

-- the number stands in the list
abbrev pub In : ℕ → List ℕ → Type 0
In p [] = ⊥
In p (q ∷ qs) = (q ≡ p) ⊎ In p qs

abbrev pub is_in : ℕ → List ℕ → Bool
is_in p [] = false
is_in p (q ∷ qs) = q == p || is_in p qs

-- how often it stands there
abbrev pub times : ℕ → List ℕ → ℕ
times b [] = 0
times b (p ∷ ps) = (if p == b then 1 else 0) + times b ps

-- none stands there twice
abbrev pub AllDiffer : List ℕ → Type 0
AllDiffer ps = (b : ℕ) → times b ps ≤ 1

-- the lists of all of these, one after the other
abbrev pub spread : (ℕ → List ℕ) → List ℕ → List ℕ
spread f [] = []
spread f (q ∷ qs) = f q ++ spread f qs

-- those that pass the test
abbrev pub passing : (ℕ → Bool) → List ℕ → List ℕ
passing test [] = []
passing test (q ∷ qs) = if test q then q ∷ passing test qs else passing test qs
