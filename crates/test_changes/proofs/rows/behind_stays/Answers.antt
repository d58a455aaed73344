use Rattle.std.specs.Prelude.{[], ◌∷◌, true, false}
use Rattle.std.proofs.Common.{ap, arith, ◌∙◌, ◌≡◌, ℕ, List, Bool}
use Rattle.std.proofs.lemmas.Bool.{true≢false}
use Rattle.test_changes.proofs.Computing.{computing}
use Rattle.test_changes.proofs.rows.behind_stays.Goals as goal

abbrev is_empty : {X : Type 0} → List X → Bool
is_empty [] = true
is_empty (x ∷ xs) = false

not_own : ◌≡◌ {A = ℕ} 7 0 → ⊥
not_own e = omega arith

pub returns : goal.returns
unfolding computing
returns c = λ s. true≢false (ap (λ p. is_empty p.free_list) (s.loosely.others 7 not_own) ∙ ap (λ y. is_empty (y.group 7).free_list) s.row.1)
