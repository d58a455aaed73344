use Rattle.std.specs.Prelude.{[], ◌∷◌, true, false}
use Rattle.test_changes.proofs.Computing.{computing}
use Rattle.std.proofs.Common.{ap, ◌∙◌, ◌≡◌, ℕ, List, Bool}
use Rattle.std.proofs.lemmas.Bool.{true≢false}
use Rattle.std.proofs.Common.{arith}
use Rattle.test_changes.proofs.rows.say_too_much.Goals as goal

abbrev is_empty : {X : Type 0} → List X → Bool
is_empty [] = true
is_empty (x ∷ xs) = false

no_one : ◌≡◌ {A = ℕ} 1 0 → ⊥
no_one e = omega arith

pub returns : goal.returns
unfolding computing
returns c = (
  λ s. true≢false (ap (λ p. is_empty p.free_list) s.loosely.inside ∙ ap (λ y. is_empty (y.group 0).free_list) s.row.1),
  λ s. true≢false (ap (λ p. is_empty p.free_list) (s.loosely.others 1 no_one) ∙ ap (λ y. is_empty (y.group 1).free_list) s.row.2),
)
