-- Places in a list, counted from 0.
use Rattle.std.specs.Prelude.{ℕ, zero, suc, Bool, if◌then◌else◌, List, [], ◌∷◌}

-- how many pass the test up to the first that doesn't: that one's place
unfoldable pub leading : {A : Type 0} → (A → Bool) → List A → ℕ
leading test [] = zero
leading test (x ∷ xs) = if test x then suc (leading test xs) else zero
