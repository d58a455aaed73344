-- A line of text: words with a space between two, and a line feed.
use Rattle.std.specs.Prelude.{ℕ, List, [], ◌∷◌, ◌++◌}

abbrev pub line_from : List (List ℕ) → List ℕ
line_from [] = 10 ∷ []
line_from (word ∷ []) = word ++ (10 ∷ [])
line_from (word ∷ other ∷ words) = word ++ (32 ∷ line_from (other ∷ words))

-- two words as one
abbrev pub spaced : List ℕ → List ℕ → List ℕ
spaced word other = word ++ (32 ∷ other)
