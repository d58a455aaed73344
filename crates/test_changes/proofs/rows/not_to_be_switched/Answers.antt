use Rattle.std.specs.Prelude.{false, Some, None}
use Rattle.test_changes.proofs.Computing.{computing}
use Rattle.std.proofs.Common.{ap, ℕ, Bool, is_some, Option}
use Rattle.std.proofs.lemmas.Bool.{true≢false}
use Rattle.std.proofs.Common.{arith, ◌≤◌}
use Rattle.test_changes.proofs.rows.not_to_be_switched.Goals as goal
use Rattle.std.specs.Prelude.{◌==◌}

abbrev is_seven : Option ℕ → Bool
is_seven None = false
is_seven (Some n) = n == 7

no_two : 2 ≤ 0 → ⊥
no_two h = omega arith

pub returns : goal.returns
unfolding computing
returns c = (λ left b s. no_two s.row.1.enough, λ left b s. true≢false (ap is_some s.row.1.sound), λ left b s. true≢false (ap is_seven s.row.0.1))
